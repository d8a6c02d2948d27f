-- The words so far are equal.
use Rattle.plan_report.specs.certificates.Order.{AgreeBelow}
use Rattle.plan_report.proofs.certificates.state_order.compare_states.Given as goal

abbrev pub invariant-loop-place : goal.invariant-loop-place
invariant-loop-place l = AgreeBelow l.ours l.theirs l.place
