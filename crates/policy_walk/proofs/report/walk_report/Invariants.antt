use Rattle.std.proofs.Common.{◌≡◌, take}
use Rattle.policy_walk.specs.Reports.{walk_lines}
use Rattle.policy_walk.proofs.report.walk_report.Given as goal

abbrev pub invariant-loop-number : goal.invariant-loop-number
invariant-loop-number l = l.out.items ≡ walk_lines 0 (take l.number l.walks)
