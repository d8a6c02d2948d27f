-- The coin of the tests is a ground problem.
use Rattle.std.proofs.Common.{◌≡◌, ◌<◌, [], ◌∷◌, refl, ap, arith, get_or}
use Rattle.std.specs.Prelude.{All, ◌≢◌}
use Rattle.std.proofs.lemmas.List.Elements.{All-nil, All-cons}
use Rattle.std.proofs.lemmas.List.Kept.{AllPairs-cons}
use Rattle.ground_model.specs.declared.action.Choice.{Choice}
use Rattle.ground_model.specs.declared.start.Start.{Start}
use Rattle.ground_model.specs.Invariant.{IsDistribution, AreLiterals, IsGuarded, IsChoice, IsAction, IsInside, IsGroundProblem}
use Rattle.ground_model.specs.Coin.{heads, tails, shows_heads}
use Rattle.ground_model.specs.Packed.{State}
use Rattle.sample_problems.specs.SureCoin.{turn, sure_coin}

one_of : {X : Type 0} (P : X → Type 0) (x : X) → P x → All P (x ∷ [])
one_of P x holds = All-cons P x [] holds (All-nil P)

two_of : {X : Type 0} (P : X → Type 0) (x y : X) → P x → P y → All P (x ∷ y ∷ [])
two_of P x y first second = All-cons P x (y ∷ []) first (one_of P y second)

add_heads : AreLiterals 1 (0 ∷ []) []
add_heads = record {
  adds_rise = refl;
  adds_below = one_of (λ q. q < 1) 0 (omega arith);
  deletes_rise = refl;
  deletes_below = All-nil (λ q. q < 1);
  disjoint = refl;
}

heads_choice : IsChoice 1 shows_heads
heads_choice = record {
  literals = add_heads;
  guarded = All-nil (IsGuarded 1);
  cost_above = omega arith;
  cost_within = omega arith;
}

turn_action : IsAction 1 turn
turn_action = record {
  condition = All-nil (λ q. q < 1);
  weights = record {
    positive = one_of (λ (c : Choice). 0 < c.weight) shows_heads (omega arith);
    sum = refl;
    den_above = omega arith;
    den_within = omega arith;
  };
  choices = one_of (IsChoice 1) shows_heads heads_choice;
  count = omega arith;
}

abbrev on_heads : Start
on_heads = record { weight = 3; state = heads }

abbrev on_tails : Start
on_tails = record { weight = 7; state = tails }

start_weights : IsDistribution (λ (x : Start). x.weight) (on_heads ∷ on_tails ∷ []) 10
start_weights = record {
  positive = two_of (λ (x : Start). 0 < x.weight) on_heads on_tails (omega arith) (omega arith);
  sum = refl;
  den_above = omega arith;
  den_within = omega arith;
}

sides_differ : on_heads.state ≢ on_tails.state
sides_differ same = let first : 1 ≡ 0 = ap (λ (s : State). get_or s 0 0) same in omega (arith, first)

pub sure_coin_is_ground_problem : IsGroundProblem sure_coin
sure_coin_is_ground_problem = record {
  atoms_rise = refl;
  atoms_count = omega arith;
  penalty_above = omega arith;
  penalty_within = omega arith;
  starts_weights = start_weights;
  starts_inside = two_of (IsInside 1) on_heads on_tails refl refl;
  starts_differ = AllPairs-cons (λ (x y : Start). x.state ≢ y.state) on_heads (on_tails ∷ [])
      (one_of (λ (y : Start). on_heads.state ≢ y.state) on_tails sides_differ) (λ i j d before within. absurd (omega arith));
  starts_count = omega arith;
  goal = one_of (λ q. q < 1) 0 (omega arith);
  actions = one_of (IsAction 1) turn turn_action;
  names_differ = λ i j d before within. absurd (omega arith);
  actions_count = omega arith;
}
