use Rattle.std.proofs.Common.{◌≤◌}
use Rattle.applicable_actions.proofs.left_out.kept_count.Given as goal

abbrev pub invariant-loop-is_out : goal.invariant-loop-is_out
invariant-loop-is_out l = l.count ≤ l.is_out-index
