use Rattle.std.proofs.Common.{◌≡◌, ◌++◌, take}
use Rattle.std.specs.List.{flat_map}
use Rattle.plan_report.specs.Reports.{start_line}
use Rattle.plan_report.proofs.grounded.push_starts.Given as goal

abbrev pub invariant-loop-start : goal.invariant-loop-start
invariant-loop-start l =
    l.out.items ≡ l.initial.out.items ++ flat_map (start_line l.problem.atoms l.problem.start_den) (take l.start-index l.start-items)
