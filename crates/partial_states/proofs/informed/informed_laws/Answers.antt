-- The laws of layers with partial rows, by their lemmas.
use Rattle.partial_states.proofs.lemmas.informed.Pair.{informed_is_balanced, informed_encloses}
use Rattle.partial_states.proofs.informed.informed_laws.Goals as goal

pub returns-clause-balanced : goal.returns-clause-balanced
returns-clause-balanced c g is = informed_is_balanced g is

pub returns-clause-encloses : goal.returns-clause-encloses
returns-clause-encloses c g is = informed_encloses g is
