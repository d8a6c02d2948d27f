use Rattle.std.proofs.Common.{ℕ, List, subst}
use Rattle.std.specs.Prelude.{All}
use Rattle.ground_model.specs.declared.action.GroundAction.{GroundAction}
use Rattle.relaxed_seed.specs.Potential.{AllowsAction}
use Rattle.relaxed_seed.specs.Lowering.{IsLowered}
use Rattle.relaxed_seed.proofs.Passes.{still_above, greatest_at_rest}
use Rattle.relaxed_seed.proofs.relaxed.put_greatest_potential.Goals as goal

pub loop-falls-preserved : goal.loop-falls-preserved
loop-falls-preserved c =
    let g = c.args.problem.now in let a = c.loop-falls.prices in let b = c.lower_by_actions-falls.new.prices in
    let fell = c.lower_by_actions-falls.result in
    let lowered : IsLowered g.penalty (λ r. All (AllowsAction g.penalty r) g.actions) a b fell
    = subst (λ (l : List GroundAction). IsLowered g.penalty (λ r. All (AllowsAction g.penalty r) l) a b fell) c.actions.ensures.value
    (subst (λ (n : ℕ). IsLowered n (λ r. All (AllowsAction n r) c.actions.result.now) a b fell) c.penalty.ensures.value
    c.lower_by_actions-falls.ensures) in
    (still_above g c.args.state.now a b fell c.loop-falls.invariant.0 lowered, λ rested. (lowered.rests rested).1)

pub returns : goal.returns
returns c =
    greatest_at_rest c.args.problem.now c.args.state.now c.loop-falls.prices c.loop-falls.invariant.0 (c.loop-falls.invariant.1 c.loop-falls-test.false)
