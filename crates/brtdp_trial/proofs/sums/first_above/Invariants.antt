use Rattle.std.proofs.Common.{◌≡◌, ℕ, ◌+◌, ◌-◌, ◌<◌, ◌≤◌, take, length}
use Rattle.std.specs.Prelude.{sum}
use Rattle.brtdp_trial.specs.Meaning.{spreads}
use Rattle.brtdp_trial.proofs.sums.first_above.Given as goal

abbrev pub invariant-loop-running : goal.invariant-loop-running
invariant-loop-running g l =
    (l.running ≡ sum (take (l.index + 1) (spreads (g.L.HasSteps.list l.steps))))
    × (l.index < length (g.L.HasSteps.list l.steps))
    × ((j : ℕ) → j < l.index → sum (take (j + 1) (spreads (g.L.HasSteps.list l.steps))) ≤ l.rest)

abbrev pub decreases-loop-running : goal.decreases-loop-running
decreases-loop-running g l = length (g.L.HasSteps.list l.steps) - l.index
