use Rattle.std.proofs.Common.{◌≡◌, ◌*◌, drop}
use Rattle.ground_terms.specs.sizes.Counted.{counted}
use Rattle.ground_terms.proofs.lemmas.sizes.DenSteps.{product_by}
use Rattle.ground_meaning.specs.refusals.Starts.{item_den, starts_den}
use Rattle.grounder.proofs.starts.denominators.starts_denominator.Given as goal

abbrev pub invariant-loop-item : goal.invariant-loop-item
invariant-loop-item l = record {
  small : counted l.product ≡ l.product;
  rest : counted (l.product * product_by item_den (drop l.item-index l.items)) ≡ counted (starts_den l.items);
}
