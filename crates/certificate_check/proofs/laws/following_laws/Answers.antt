-- By the rounded backup of a state.
use Rattle.certificate_check.proofs.Following.{lower_is_up_to, upper_is_from, lower_fails_above, upper_fails_without, ends_are_means}
use Rattle.certificate_check.proofs.laws.following_laws.Goals as goal

pub returns-clause-lower : goal.returns-clause-lower
returns-clause-lower c = lower_is_up_to

pub returns-clause-upper : goal.returns-clause-upper
returns-clause-upper c = upper_is_from

pub returns-clause-lower_fails : goal.returns-clause-lower_fails
returns-clause-lower_fails c = lower_fails_above

pub returns-clause-upper_fails : goal.returns-clause-upper_fails
returns-clause-upper_fails c = upper_fails_without

pub returns-clause-ends : goal.returns-clause-ends
returns-clause-ends c = ends_are_means
