use Rattle.std.proofs.Common.{rules, flat_map, length, subst, sym, ap, ◌∙◌, ◌<◌}
use Rattle.std.proofs.lemmas.List.{take_all}
use Rattle.ground_model.specs.declared.limits.TheConstants.{MOST_CHOICE_COST}
use Rattle.lower_seed.specs.Costs.{costs_of}
use Rattle.lower_seed.proofs.LeastCosts.{least_from, action_more, above_zero, least_found}
use Rattle.lower_seed.proofs.costs.least_choice.Goals as goal

pub loop-action-preserved : goal.loop-action-preserved
loop-action-preserved c =
    let a = c.action-item.result in
    c.least_with-least.ensures ∙ ap (λ n. least_from n (costs_of a)) c.loop-action.invariant
    ∙ action_more MOST_CHOICE_COST c.actions-action-items.result.now c.loop-action.action-index a (search rules) c.action-item.is

pub returns : goal.returns
returns c =
    let g = c.args.problem.now in
    let some : 0 < length c.actions.result.now = above_zero (length c.actions.result.now) (sym c.is_empty.ensures ∙ c.if-is_empty.false) in
    c.loop-action.invariant
    ∙ ap (λ l. least_from MOST_CHOICE_COST (flat_map costs_of l))
    (take_all c.loop-action.action-index c.actions-action-items.result.now c.loop-action-test.false ∙ c.actions-action-items.ensures.value)
    ∙ least_found g c.actions.ensures.valid (subst (λ (l : _). 0 < length l) c.actions.ensures.value some)
