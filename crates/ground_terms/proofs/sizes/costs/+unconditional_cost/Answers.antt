use Rattle.std.proofs.Common.{rules, ◌≡◌, refl, sym, ap, ◌∙◌}
use Rattle.ppddl_model.specs.Costs.{unconditional_cost}
use Rattle.ground_terms.specs.terms.Values.{least_of}
use Rattle.ground_terms.specs.sizes.Counted.{counted}
use Rattle.ground_terms.specs.sizes.Valued.{with_values}
use Rattle.ground_terms.proofs.lemmas.sizes.Stopping.{counted_within}
use Rattle.ground_terms.proofs.lemmas.sizes.CostSteps.{cost-Both, cost-Forall}
use Rattle.ground_terms.proofs.sizes.costs.+unconditional_cost.Goals as goal

pub loop-part-init : goal.loop-part-init
loop-part-init t c = record {
  small = refl;
  rest =
      cost-Both (with_values c.args.table.now c.args.least.now) c.args.effect.now c.in-Both.parts c.as_slice-part-items.result.now
      c.in-Both.is c.as_slice-part-items.ensures;
}

pub returns-in-Forall : goal.returns-in-Forall
returns-in-Forall t c =
    cost-Forall c.args.table.now c.args.least.now c.args.effect.now c.in-Forall.inner c.get.result.now c.in-Forall.variables c.as_slice.result.now
    c.saturating_mul.result c.count_bindings.result c.unconditional_cost-in-Forall.result c.in-Forall.is c.get.ensures c.as_slice.ensures
    c.saturating_mul.ensures c.count_bindings.ensures c.unconditional_cost-in-Forall.ensures

pub returns-in-CostOf : goal.returns-in-CostOf
returns-in-CostOf t c =
    let w = with_values c.args.table.now c.args.least.now in
    let value : c.least_of.result ≡ unconditional_cost w c.args.effect.now =
    c.least_of.ensures ∙ ap (least_of c.args.least.now) c.as_slice-in-CostOf.ensures ∙ ap (unconditional_cost w) (sym c.in-CostOf.is) in
    counted_within c.least_of.result (search rules) ∙ ap counted value
