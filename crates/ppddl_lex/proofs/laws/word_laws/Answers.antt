use Rattle.ppddl_lex.proofs.Lowered.{lowered_once, names_lowered}
use Rattle.ppddl_lex.proofs.laws.word_laws.Goals as goal

pub returns : goal.returns
returns c = record { lowered = lowered_once; names = names_lowered }
