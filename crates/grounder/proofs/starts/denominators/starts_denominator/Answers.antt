use Rattle.std.proofs.Common.{arith}
use Rattle.ground_terms.specs.sizes.Counted.{counted}
use Rattle.ground_terms.proofs.lemmas.sizes.DenSteps.{product_more}
use Rattle.ground_meaning.specs.refusals.Starts.{item_den, starts_den}
use Rattle.grounder.proofs.starts.denominators.starts_denominator.Goals as goal

pub loop-item-preserved : goal.loop-item-preserved
loop-item-preserved c = record {
  small = omega (arith, c.saturating_mul-product.ensures);
  rest =
      product_more item_den c.args.items.now c.loop-item.item-index c.item-item.result c.loop-item.product c.saturating_mul-product.result
      c.item_denominator.result (counted (starts_den c.args.items.now)) c.loop-item-test.true c.item-item.is c.item_denominator.ensures
      c.saturating_mul-product.ensures c.loop-item.invariant.rest;
}
