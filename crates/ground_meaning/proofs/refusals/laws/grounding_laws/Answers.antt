-- What is grounded stands for the task, and how it is spelled, by their lemmas.
use Rattle.ground_meaning.proofs.lemmas.refusals.Invariant.{grounded_stands}
use Rattle.ground_meaning.proofs.lemmas.refusals.Spelled.{are_lists}
use Rattle.ground_meaning.proofs.refusals.laws.grounding_laws.Goals as goal

pub returns : goal.returns
returns c = record { stands = grounded_stands; names = are_lists }
