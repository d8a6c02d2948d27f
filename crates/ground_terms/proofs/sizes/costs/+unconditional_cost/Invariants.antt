use Rattle.std.proofs.Common.{◌≡◌, ◌+◌, drop}
use Rattle.plain_list.specs.weighted.Mean.{total}
use Rattle.ppddl_model.specs.Costs.{unconditional_cost}
use Rattle.ground_terms.specs.sizes.Counted.{counted}
use Rattle.ground_terms.specs.sizes.Valued.{with_values}
use Rattle.ground_terms.proofs.sizes.costs.+unconditional_cost.Given as goal

abbrev pub invariant-loop-part : goal.invariant-loop-part
invariant-loop-part l = record {
  small : counted l.cost ≡ l.cost;
  rest :
      counted (l.cost + total (unconditional_cost (with_values l.table l.least)) (drop l.part-index l.part-items))
      ≡ counted (unconditional_cost (with_values l.table l.least) l.effect);
}
