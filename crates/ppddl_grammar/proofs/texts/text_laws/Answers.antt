-- One language, by the lemmas.
use Rattle.ppddl_grammar.proofs.lemmas.texts.Texts.{derived, accepted, one-task}
use Rattle.ppddl_grammar.proofs.texts.text_laws.Goals as goal

pub returns : goal.returns
returns c = record { derived = derived; accepted = accepted; one = one-task }
