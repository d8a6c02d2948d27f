use Rattle.std.proofs.Common.{◌≡◌, ◌≤◌, ◌*◌, ◌^◌, take}
use Rattle.std.specs.Prelude.{sum, map}
use Rattle.brtdp_trial.specs.Listed.{term}
use Rattle.brtdp_trial.proofs.backing.sum_over.Given as goal

abbrev pub invariant-loop-outcome : goal.invariant-loop-outcome
invariant-loop-outcome l =
    (l.sum ≤ l.outcome-index * (10 ^ 18 * (2 * 10 ^ 14)))
    × (l.sum ≡ sum (map (term l.side l.numbers) (take l.outcome-index l.outcome-items)))
