use Rattle.std.proofs.Common.{rules, ℕ, List, subst, ◌∙◌}
use Rattle.std.proofs.lemmas.List.{take_all}
use Rattle.ground_model.specs.declared.action.Choice.{Choice}
use Rattle.relaxed_seed.specs.Potential.{AllowsChoice}
use Rattle.relaxed_seed.specs.Lowering.{IsLowered}
use Rattle.relaxed_seed.proofs.Lowered.{AllowEach, lowered_by_more, lowered_by_action}
use Rattle.relaxed_seed.proofs.lowering.lower_by_action.Goals as goal

pub loop-choice-preserved : goal.loop-choice-preserved
loop-choice-preserved c =
    let penalty = c.args.penalty in let base = c.price-base.result in let x = c.choice-item.result in
    lowered_by_more penalty (λ (y : Choice) (r : ℕ → ℕ). AllowsChoice penalty base r y) c.as_slice-choice-items.result.now c.loop-choice.choice-index x x
    (search rules) c.choice-item.is c.args.prices.now c.loop-choice.prices c.lower_by_choice-fell.new.prices c.loop-choice.fell
    c.lower_by_choice-fell.result c.loop-choice.invariant c.lower_by_choice-fell.ensures

pub returns : goal.returns
returns c =
    let penalty = c.args.penalty in let base = c.price-base.result in let a = c.args.prices.now in let b = c.loop-choice.prices in
    let f = c.loop-choice.fell in let i = c.loop-choice.choice-index in let items = c.as_slice-choice-items.result.now in
    lowered_by_action penalty base c.args.action.now a b f c.price-base.ensures
    (subst (λ (l : List Choice). IsLowered penalty (AllowEach penalty (λ (y : Choice) (r : ℕ → ℕ). AllowsChoice penalty base r y) l) a b f)
    (take_all i items c.loop-choice-test.false ∙ c.as_slice-choice-items.ensures) c.loop-choice.invariant)
