use Rattle.std.proofs.Common.{rules, ℕ, List, subst}
use Rattle.std.proofs.lemmas.List.{take_all}
use Rattle.ground_model.specs.declared.action.GroundAction.{GroundAction}
use Rattle.relaxed_seed.specs.Potential.{AllowsAction}
use Rattle.relaxed_seed.specs.Lowering.{IsLowered}
use Rattle.relaxed_seed.proofs.Lowered.{AllowEach, lowered_by_more}
use Rattle.relaxed_seed.proofs.lowering.lower_by_actions.Goals as goal

pub loop-action-preserved : goal.loop-action-preserved
loop-action-preserved c =
    let penalty = c.args.penalty in let x = c.action-item.result in
    lowered_by_more penalty (λ (y : GroundAction) (r : ℕ → ℕ). AllowsAction penalty r y) c.args.actions.now c.loop-action.action-index x x
    (search rules) c.action-item.is c.args.prices.now c.loop-action.prices c.lower_by_action-fell.new.prices c.loop-action.fell
    c.lower_by_action-fell.result c.loop-action.invariant c.lower_by_action-fell.ensures

pub returns : goal.returns
returns c =
    let penalty = c.args.penalty in
    subst (λ (l : List GroundAction). IsLowered penalty (AllowEach penalty (λ (y : GroundAction) (r : ℕ → ℕ). AllowsAction penalty r y) l)
    c.args.prices.now c.loop-action.prices c.loop-action.fell)
    (take_all c.loop-action.action-index c.args.actions.now c.loop-action-test.false) c.loop-action.invariant
