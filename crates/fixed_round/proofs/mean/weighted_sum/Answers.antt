use Rattle.std.proofs.Common.{◌≡◌, ◌*◌, ◌+◌, ◌≤◌, ◌^◌, get_or, arith}
use Rattle.std.proofs.lemmas.List.Sums.{sum_by_more}
use Rattle.std.proofs.Math.Nat.{mul-le-mul_left}
use Rattle.fixed_round.proofs.MeanLemmas.{weighted_more}
use Rattle.fixed_round.proofs.mean.weighted_sum.Goals as goal

pub loop-i-preserved : goal.loop-i-preserved
loop-i-preserved c =
    let ws = c.args.weights.now in
    let cs = c.args.costs.now in
    let vs = c.args.values.now in
    let i = c.loop-i.i in
    let more = weighted_more ws cs vs i c.requires.a_cost_each c.requires.a_value_each (omega arith) in
    let weights = sum_by_more (λ w. w) ws i 0 (omega arith) in
    let part : get_or cs i 0 + get_or vs i 0 ≤ 11 * 10 ^ 13 = omega (arith, c.requires.costs_bounded i 0 (omega arith), c.requires.values_bounded i 0 (omega arith)) in
    let bounded = mul-le-mul_left (get_or ws i 0) part in
    let product : c.from.result * c.from-in-loop-i.result ≡ get_or ws i 0 * (get_or cs i 0 + get_or vs i 0) =
    λ k. c.from.ensures k * c.from-in-loop-i.ensures k
    in
    record { total = omega arith; bounded = omega arith }
