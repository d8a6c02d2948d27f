-- Tasks that are read are well-formed, by the lemmas.
use Rattle.ppddl_grammar.proofs.lemmas.well_formed.Texts.{tasks-well_formed, tasks-named}
use Rattle.ppddl_grammar.proofs.well_formed.task_laws.Goals as goal

pub returns : goal.returns
returns c = record { well_formed = tasks-well_formed; names = tasks-named }
