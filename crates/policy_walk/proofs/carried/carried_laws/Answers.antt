-- What is carried, by its lemmas.
use Rattle.policy_walk.proofs.Carrying.{runs_are_carried, acts_are_carried}
use Rattle.policy_walk.proofs.carried.carried_laws.Goals as goal

pub returns-clause-runs : goal.returns-clause-runs
returns-clause-runs g c = runs_are_carried

pub returns-clause-acts : goal.returns-clause-acts
returns-clause-acts g c = acts_are_carried
