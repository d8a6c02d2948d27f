use Rattle.std.proofs.Common.{not, sym, ap, ◌∙◌}
use Rattle.std.proofs.Math.Nat.{le_refl}
use Rattle.std.proofs.lemmas.List.{drop_all}
use Rattle.relaxed_seed.specs.Prices.{price_as, prices_at}
use Rattle.relaxed_seed.proofs.Parts.{price-Not, cheapest_with_penalty, cheapest_of_none}
use Rattle.relaxed_seed.proofs.prices.+prices.Goals as goal

pub price_as-returns-in-Not : goal.price_as-returns-in-Not
price_as-returns-in-Not t c =
    let r = prices_at c.args.prices.now c.args.penalty in let penalty = c.args.penalty in
    c.price_as.ensures ∙ ap (price_as r penalty (not c.args.wanted)) c.get.ensures
    ∙ sym (ap (price_as r penalty c.args.wanted) c.in-Not.is ∙ price-Not r penalty c.args.wanted c.in-Not.inner)

pub cheapest-loop-part-init : goal.cheapest-loop-part-init
cheapest-loop-part-init t c = (
  le_refl c.args.penalty,
  cheapest_with_penalty (prices_at c.args.prices.now c.args.penalty) c.args.penalty c.args.wanted c.args.parts.now,
)

pub cheapest-returns : goal.cheapest-returns
cheapest-returns t c =
    cheapest_of_none (prices_at c.args.prices.now c.args.penalty) c.args.penalty c.loop-part.found c.args.wanted _ c.loop-part.invariant.0
    (drop_all c.loop-part.part-index c.args.parts.now c.loop-part-test.false)
    ∙ c.loop-part.invariant.1
