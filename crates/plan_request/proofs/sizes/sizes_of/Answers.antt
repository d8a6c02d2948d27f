-- The table holds at least 65 states.
use Rattle.std.proofs.Common.{sym, ◌∙◌, arith}
use Rattle.plan_request.proofs.Ranges.{states_least}
use Rattle.plan_request.proofs.sizes.sizes_of.Goals as goal

pub overflow_sub-most_swept : goal.overflow_sub-most_swept
overflow_sub-most_swept c = omega (arith, states_least _ c.in_ok-states.states (sym c.count_or-2.ensures ∙ c.in_ok-states.was))
