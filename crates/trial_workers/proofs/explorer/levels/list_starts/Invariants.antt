-- The starts so far are listed.
use Rattle.std.proofs.Common.{◌≡◌, map, take}
use Rattle.ground_model.specs.declared.start.Start.{Start}
use Rattle.trial_workers.proofs.explorer.levels.list_starts.Given as goal

abbrev pub invariant-loop-start : goal.invariant-loop-start
invariant-loop-start l = l.listing ≡ map (λ (x : Start). x.state) (take l.start-index l.starts)
