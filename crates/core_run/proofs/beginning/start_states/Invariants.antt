-- The states of the first starts.
use Rattle.std.proofs.Common.{◌≡◌, map, take}
use Rattle.ground_model.specs.declared.start.Start.{Start}
use Rattle.core_run.proofs.beginning.start_states.Given as goal

abbrev pub invariant-loop-start : goal.invariant-loop-start
invariant-loop-start l = l.states.items ≡ map (λ (x : Start). x.state) (take l.start-index l.start-items)
