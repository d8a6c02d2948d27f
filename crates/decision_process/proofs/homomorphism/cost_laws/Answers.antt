-- The laws of costs, by their lemmas.
use Rattle.decision_process.proofs.lemmas.homomorphism.Costs.{least_is_carried, spend_is_carried, still_is_carried}
use Rattle.decision_process.proofs.lemmas.homomorphism.Plans.{plans_are_carried, plans_are_found}
use Rattle.decision_process.proofs.homomorphism.cost_laws.Goals as goal

pub returns-clause-least : goal.returns-clause-least
returns-clause-least g c = least_is_carried

pub returns-clause-spend : goal.returns-clause-spend
returns-clause-spend g c = spend_is_carried

pub returns-clause-still : goal.returns-clause-still
returns-clause-still g c = still_is_carried

pub returns-clause-plans : goal.returns-clause-plans
returns-clause-plans g c = plans_are_carried

pub returns-clause-plans_found : goal.returns-clause-plans_found
returns-clause-plans_found g c = plans_are_found
