use Rattle.applicable_actions.proofs.lemmas.distinct.Enough.{lower_by_enough, upper_by_enough, successors_by_enough}
use Rattle.applicable_actions.proofs.distinct.laws.enough_laws.Goals as goal

pub returns-clause-lower : goal.returns-clause-lower
returns-clause-lower c = lower_by_enough

pub returns-clause-upper : goal.returns-clause-upper
returns-clause-upper c = upper_by_enough

pub returns-clause-successors : goal.returns-clause-successors
returns-clause-successors c = successors_by_enough
