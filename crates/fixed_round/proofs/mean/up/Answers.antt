use Rattle.std.proofs.Common.{◌^◌, ◌*◌, ◌≤◌, sym, ap, subst, ◌∙◌}
use Rattle.std.specs.Int.{div_ceil}
use Rattle.fixed_round.proofs.MeanLemmas.{div_ceil-le}
use Rattle.fixed_round.proofs.mean.up.Goals as goal

pub returns-clause-bounded : goal.returns-clause-bounded
returns-clause-bounded c =
    let exact = c.div_ceil.ensures ∙ ap (div_ceil c.weighted_sum-total.result) c.from.ensures in
    subst (λ n. n ≤ 11 * 10 ^ 13) (sym exact) (div_ceil-le c.weighted_sum-total.result c.args.den (11 * 10 ^ 13) c.requires.den_positive c.weighted_sum-total.ensures.bounded)
