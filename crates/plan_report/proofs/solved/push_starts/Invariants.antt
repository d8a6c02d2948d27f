use Rattle.std.proofs.Common.{◌≡◌, ◌++◌, take}
use Rattle.std.specs.List.{flat_map}
use Rattle.bound_core.specs.ends.Closing.{closing_rows}
use Rattle.plan_report.specs.Solved.{solved_line}
use Rattle.plan_report.proofs.solved.push_starts.Given as goal

abbrev pub invariant-loop-place : goal.invariant-loop-place
invariant-loop-place l =
    l.out.items ≡ l.initial.out.items ++ flat_map (solved_line l.problem (closing_rows l.rows)) (take l.place l.start-items)
