-- The laws of levels, by their lemmas.
use Rattle.decision_process.proofs.lemmas.homomorphism.Levels.{near_is_carried, near_is_found, depth_is_carried}
use Rattle.decision_process.proofs.homomorphism.level_laws.Goals as goal

pub returns-clause-near : goal.returns-clause-near
returns-clause-near g c = near_is_carried

pub returns-clause-near_found : goal.returns-clause-near_found
returns-clause-near_found g c = near_is_found

pub returns-clause-depth : goal.returns-clause-depth
returns-clause-depth g c = depth_is_carried
