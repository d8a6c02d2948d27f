-- The laws of values that are known from below, by their lemmas.
use Rattle.decision_process.proofs.lemmas.under.Values.{zero_is_under, smaller_is_under, least_step_is_under, greater_covers}
use Rattle.decision_process.proofs.lemmas.under.Means.{under_mean_is_below_plans, under_mean_is_higher}
use Rattle.decision_process.proofs.under.under_laws.Goals as goal

pub returns-clause-zero : goal.returns-clause-zero
returns-clause-zero g c p = zero_is_under p

pub returns-clause-smaller : goal.returns-clause-smaller
returns-clause-smaller g c p = smaller_is_under p

pub returns-clause-least_step : goal.returns-clause-least_step
returns-clause-least_step g c p = least_step_is_under p

pub returns-clause-greater : goal.returns-clause-greater
returns-clause-greater g c p = greater_covers p

pub returns-clause-plans : goal.returns-clause-plans
returns-clause-plans g c p = under_mean_is_below_plans p

pub returns-clause-higher : goal.returns-clause-higher
returns-clause-higher g c = under_mean_is_higher
