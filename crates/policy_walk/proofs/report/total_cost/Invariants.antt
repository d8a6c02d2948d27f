use Rattle.std.proofs.Common.{◌≡◌, take}
use Rattle.policy_walk.specs.Reports.{total_cost}
use Rattle.policy_walk.proofs.report.total_cost.Given as goal

abbrev pub invariant-loop-walk : goal.invariant-loop-walk
invariant-loop-walk l = l.total ≡ total_cost (take l.walk-index l.walks)
