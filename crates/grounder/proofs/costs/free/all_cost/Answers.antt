use Rattle.std.proofs.Common.{◌≡◌, [], refl, ap, sym, subst, ◌∙◌}
use Rattle.ppddl_model.specs.Costs.{unconditional_cost}
use Rattle.type_table.specs.Types.{table_world}
use Rattle.ground_terms.specs.sizes.Counted.{counted}
use Rattle.ground_terms.specs.sizes.Typed.{IsTyped}
use Rattle.ground_terms.specs.sizes.Valued.{with_values}
use Rattle.ground_terms.proofs.lemmas.sizes.Forgetting.{made_is_typed}
use Rattle.grounder.proofs.Costing.{none_so_far}
use Rattle.grounder.proofs.costs.free.all_cost.Goals as goal

pub unconditional_cost-cost-requires : goal.unconditional_cost-cost-requires
unconditional_cost-cost-requires c =
    let types = c.args.task.now.domain.types in
    let is : c.in-Ok.table ≡ table_world types [] = c.in-Ok.ensures.table ∙ ap (λ ts. table_world ts []) c.as_slice-2.ensures in
    subst IsTyped (sym is) (made_is_typed types [] refl)

pub loop-action-preserved : goal.loop-action-preserved
loop-action-preserved c =
    let task = c.args.task.now in
    let item = c.action-item.result in
    let table : c.in-Ok.table ≡ table_world task.domain.types [] = c.in-Ok.ensures.table ∙ ap (λ ts. table_world ts []) c.as_slice-2.ensures in
    let least : c.in_ok-least.least ≡ task.problem.values = c.in_ok-least.ensures ∙ c.as_slice.ensures in
    none_so_far task c.as_slice-action-items.result.now c.loop-action.action-index item c.unconditional_cost-cost.result
    c.loop-action-test.true c.action-item.is
    (c.unconditional_cost-cost.ensures ∙ (λ i. counted (unconditional_cost (with_values (table i) (least i)) item.effect)))
    c.if-cost-eq0.false c.loop-action.invariant
