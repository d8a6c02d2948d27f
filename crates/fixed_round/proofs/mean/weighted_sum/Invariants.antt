use Rattle.std.proofs.Common.{◌≡◌, ◌*◌, ◌^◌, ◌≤◌, take}
use Rattle.std.specs.Prelude.{sum}
use Rattle.fixed_round.specs.Means.{weighted}
use Rattle.fixed_round.proofs.mean.weighted_sum.Given as goal

abbrev pub invariant-loop-i : goal.invariant-loop-i
invariant-loop-i l = record {
  total : l.total ≡ weighted (take l.i l.weights) (take l.i l.costs) (take l.i l.values);
  bounded : l.total ≤ sum (take l.i l.weights) * (11 * 10 ^ 13);
}
