-- The first starts have their rows.
use Rattle.std.proofs.Common.{◌≡◌, map, take}
use Rattle.ground_model.specs.declared.start.Start.{Start}
use Rattle.core_run.specs.Began.{start_row}
use Rattle.core_run.proofs.beginning.start_rows.Given as goal

abbrev pub invariant-loop-start : goal.invariant-loop-start
invariant-loop-start l = l.rows.items ≡ map (start_row l.problem) (map (λ (x : Start). x.state) (take l.start-index l.start-items))
