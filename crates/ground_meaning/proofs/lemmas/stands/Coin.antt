-- The ground coin stands for the coin, so the laws' premises can be met.
use Rattle.std.proofs.Common.{◌<◌, ◌≡◌, ℕ, Bool, true, false, ◌&&◌, [], ◌∷◌, refl, ap, subst, sym, ◌∙◌, arith}
use Rattle.std.specs.Prelude.{IsTrue, nat_lt}
use Rattle.std.proofs.lemmas.List.Elements.{All-nil, All-cons}
use Rattle.exact_fraction.specs.declared.fraction.Fraction.{Fraction}
use Rattle.ppddl_model.specs.declared.tree.Action.{Action}
use Rattle.ppddl_model.specs.declared.tree.Effect.TheBlock.{shape-the_row-Effect-0, hidden-the_row-Effect-0, hidden-the_row-Effect-1, shape-the_row-Branch-2, hidden-the_row-Branch-2}
use Rattle.ppddl_model.specs.declared.tree.Condition.TheBlock.{shape-the_row-Condition-0, hidden-the_row-Condition-0, hidden-the_row-Condition-1}
use denote.Hole.Carrier.{hidden}
use Rattle.ppddl_model.specs.Draws.{EachDraw, EachItemDraw}
use Rattle.ppddl_model.specs.Chances.{HavePositiveDenominators, HasPositiveDenominators}
use Rattle.ppddl_model.specs.examples.Coin.{flip, coin}
use Rattle.ppddl_model.specs.State.{State}
use Rattle.ppddl_model.specs.Steps.{is_open, is_goal, step, step_den}
use Rattle.plain_list.specs.weighted.Mean.{IsAlike}
use Rattle.decision_process.specs.Process.{Outcome}
use Rattle.ground_model.specs.declared.action.Choice.{Choice}
use Rattle.ground_model.specs.Truth.{truth}
use Rattle.ground_model.specs.Choices.{cost_of, next_state}
use Rattle.ground_model.specs.Packed as packed
use Rattle.ground_model.specs.Packed.{has_bit, is_inside}
use Rattle.ground_model.specs.Coin as sides
use Rattle.ground_model.specs.Coin.{heads, tails}
use Rattle.ground_model.specs.Invariant.{IsGroundProblem}
use Rattle.ground_model.proofs.Packed.{inside_is_its_bits}
use Rattle.ground_model.proofs.Coin.{coin_is_ground_problem}
use Rattle.ground_meaning.specs.stands.Stands.{state_of, IsActionOf, Stands, IsGroundOf}
use Rattle.ground_meaning.specs.stands.Coin.{toss, charges, flipping}

-- the two packed states
module _ (P : packed.State → Type 0) (at_tails : P tails) (at_heads : P heads) where
  by_first_bit : (b : Bool) → P (packed.packed (λ q. nat_lt q 1 && b) 1)
  by_first_bit true = at_heads
  by_first_bit false = at_tails

  at_first_bit : (s : packed.State) (b : Bool) → has_bit s 0 ≡ b → packed.packed (λ q. nat_lt q 1 && has_bit s q) 1 ≡ packed.packed (λ q. nat_lt q 1 && b) 1
  at_first_bit s b bit = ap (λ x. packed.packed (λ q. nat_lt q 1 && x) 1) bit

  each_side : (s : packed.State) → IsTrue (is_inside 1 s) → P s
  each_side s inside =
      subst P (sym (inside_is_its_bits 1 s inside ∙ at_first_bit s (has_bit s 0) refl)) (by_first_bit (has_bit s 0))

flip_stands : IsActionOf toss coin charges sides.flip flipping
unfolding shape-the_row-Effect-0 hidden-the_row-Effect-0 hidden-the_row-Effect-1 shape-the_row-Branch-2 hidden-the_row-Branch-2 shape-the_row-Condition-0 hidden-the_row-Condition-0 hidden-the_row-Condition-1 hidden
flip_stands = record {
  name = refl;
  opens = each_side (λ s. truth (has_bit s) sides.flip.condition ≡ is_open coin flipping (state_of toss coin s)) refl refl;
  chances = each_side (λ s. IsAlike {X = State × ℕ} (λ (c : Choice). c.weight) (λ c. (state_of toss coin (next_state s c), cost_of (has_bit s) c))
      (λ (o : Outcome State). o.weight) (λ o. (o.next, o.cost)) sides.flip.choices 2 (step coin charges flipping (state_of toss coin s)) (step_den coin))
      (λ v. refl) (λ v. refl);
}

abbrev one_half : Fraction
one_half = record { num = 1; den = 2 }

half_alone : HavePositiveDenominators (one_half ∷ [])
half_alone = All-cons (λ (chance : Fraction). 0 < chance.den) one_half [] (omega arith) (All-nil (λ (chance : Fraction). 0 < chance.den))

half_is_positive : HasPositiveDenominators coin
unfolding shape-the_row-Effect-0 hidden-the_row-Effect-0 hidden-the_row-Effect-1 shape-the_row-Branch-2 hidden-the_row-Branch-2 shape-the_row-Condition-0 hidden-the_row-Condition-0 hidden-the_row-Condition-1 hidden
half_is_positive = record {
  actions = All-cons (λ (a : Action). EachDraw HavePositiveDenominators a.effect) flip []
      (All-cons HavePositiveDenominators (one_half ∷ []) [] half_alone (All-nil HavePositiveDenominators))
      (All-nil (λ (a : Action). EachDraw HavePositiveDenominators a.effect));
  init = All-nil (EachItemDraw HavePositiveDenominators);
}

toss_stands : Stands toss coin charges
unfolding shape-the_row-Effect-0 hidden-the_row-Effect-0 hidden-the_row-Effect-1 shape-the_row-Branch-2 hidden-the_row-Branch-2 shape-the_row-Condition-0 hidden-the_row-Condition-0 hidden-the_row-Condition-1 hidden
toss_stands = record {
  atoms = λ text. (λ inside. inside, λ inside. inside);
  penalty = refl;
  goals = each_side (λ s. truth (has_bit s) toss.goal ≡ is_goal coin (state_of toss coin s)) refl refl;
  actions = (flip_stands, tt);
  starts = λ v. refl;
}

toss_is_problem : IsGroundProblem toss
toss_is_problem = record {
  atoms_rise = refl;
  atoms_count = omega arith;
  penalty_above = coin_is_ground_problem.penalty_above;
  penalty_within = coin_is_ground_problem.penalty_within;
  starts_weights = coin_is_ground_problem.starts_weights;
  starts_inside = coin_is_ground_problem.starts_inside;
  starts_differ = coin_is_ground_problem.starts_differ;
  starts_count = coin_is_ground_problem.starts_count;
  goal = coin_is_ground_problem.goal;
  actions = coin_is_ground_problem.actions;
  names_differ = coin_is_ground_problem.names_differ;
  actions_count = coin_is_ground_problem.actions_count;
}

pub toss_is_ground_of_coin : IsGroundOf toss coin charges
toss_is_ground_of_coin = record { is_problem = toss_is_problem; denominators = half_is_positive; stands = toss_stands }
