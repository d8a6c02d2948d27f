-- The layers and partial rows of the two coins pass their tests, so the laws speak of them.
use Rattle.std.proofs.Common.{◌≡◌, ℕ, ◌*◌, ◌≤◌, Bool, true, false, List, [], ◌∷◌, Option, Some, refl, subst, inl, inr, arith}
use Rattle.std.specs.Prelude.{All, Contains}
use Rattle.std.proofs.lemmas.List.Elements.{All-nil, All-cons}
use denote.Hole.Carrier.{hidden}
use Rattle.plain_list.proofs.Members.{Contains-first, Contains-later, Contains-cons_cases, Contains-nil}
use Rattle.ground_model.specs.declared.action.GroundAction.{GroundAction}
use Rattle.ground_model.specs.declared.condition.GroundCondition.TheBlock.{shape-the_row-GroundCondition-0}
use Rattle.ground_model.specs.declared.condition.GroundCondition.TheBlock.{hidden-the_row-GroundCondition-0, hidden-the_row-GroundCondition-1}
use Rattle.ppddl_model.specs.Known.{is_not_false}
use Rattle.partial_states.specs.Known.{kleene}
use Rattle.partial_states.specs.Steps.{step_known}
use Rattle.partial_states.specs.ground_rows.GroundRows.{known_at, GroundRow, Successor, IsGroundRow}
use Rattle.partial_states.specs.ground_layers.GroundLayers.{known_by, touches, paid_by, IsGroundLayer, IsGroundGroup}
use Rattle.partial_states.specs.Coins.{coins, side, flip, both_heads, at_tails, coin_layer, group, done, then_second, first_coin, rows}

-- a fact of each of three
of_three : {X : Type 0} (P : X → Type 0) (x y z : X) → P x → P y → P z → (w : X) → Contains (x ∷ y ∷ z ∷ []) w → P w
of_three P x y z a b c w inside = elim (Contains-cons_cases x (y ∷ z ∷ []) w inside) [
  | inl here ↦ subst P here a
  | inr later ↦ elim (Contains-cons_cases y (z ∷ []) w later) [
    | inl here ↦ subst P here b
    | inr last ↦ elim (Contains-cons_cases z [] w last) [
      | inl here ↦ subst P here c
      | inr none ↦ absurd (Contains-nil w none)
    ]
  ]
]

of_two : {X : Type 0} (P : X → Type 0) (x y : X) → P x → P y → (w : X) → Contains (x ∷ y ∷ []) w → P w
of_two P x y a b w inside = elim (Contains-cons_cases x (y ∷ []) w inside) [
  | inl here ↦ subst P here a
  | inr later ↦ elim (Contains-cons_cases y [] w later) [
    | inl here ↦ subst P here b
    | inr none ↦ absurd (Contains-nil w none)
  ]
]

none_known : (known : ℕ → Option Bool) (b : Bool) → All (λ q. known q ≡ Some b) []
none_known known b = All-nil (λ q. known q ≡ Some b)

one_known : (known : ℕ → Option Bool) (b : Bool) (x : ℕ) → known x ≡ Some b → All (λ q. known q ≡ Some b) (x ∷ [])
one_known known b x is = All-cons (λ q. known q ≡ Some b) x [] is (none_known known b)

two_known : (known : ℕ → Option Bool) (b : Bool) (x y : ℕ) → known x ≡ Some b → known y ≡ Some b
    → All (λ q. known q ≡ Some b) (x ∷ y ∷ [])
two_known known b x y is later = All-cons (λ q. known q ≡ Some b) x (y ∷ []) is (one_known known b y later)

to : GroundRow → Successor
to row = record { picked = []; row = Some row }

done_passes : IsGroundRow coins rows done
unfolding shape-the_row-GroundCondition-0 hidden-the_row-GroundCondition-0 hidden-the_row-GroundCondition-1 hidden
done_passes = refl

second_passes : IsGroundRow coins rows then_second
unfolding to
second_passes = record {
  action = flip 1;
  has_code = refl;
  opens = refl;
  successors = to done ∷ to then_second ∷ [];
  follow = (
    tt,
    (
      Contains-first done (then_second ∷ first_coin ∷ []),
      record {
        trues = two_known (step_known (known_at then_second.state) (side (1 ∷ [])) []) true 0 1 refl refl;
        falses = none_known (step_known (known_at then_second.state) (side (1 ∷ [])) []) false;
      },
    ),
    (
      tt,
      (
        Contains-later done (then_second ∷ first_coin ∷ []) then_second (Contains-first then_second (first_coin ∷ [])),
        record {
          trues = one_known (step_known (known_at then_second.state) (side []) []) true 0 refl;
          falses = none_known (step_known (known_at then_second.state) (side []) []) false;
        },
      ),
      tt,
    ),
  );
  covers = omega arith;
}

first_passes : IsGroundRow coins rows first_coin
unfolding to
first_passes = record {
  action = flip 0;
  has_code = refl;
  opens = refl;
  successors = to then_second ∷ to first_coin ∷ [];
  follow = (
    tt,
    (
      Contains-later done (then_second ∷ first_coin ∷ []) then_second (Contains-first then_second (first_coin ∷ [])),
      record {
        trues = one_known (step_known (known_at first_coin.state) (side (0 ∷ [])) []) true 0 refl;
        falses = none_known (step_known (known_at first_coin.state) (side (0 ∷ [])) []) false;
      },
    ),
    (
      tt,
      (
        Contains-later done (then_second ∷ first_coin ∷ []) first_coin
            (Contains-later then_second (first_coin ∷ []) first_coin (Contains-first first_coin [])),
        record {
          trues = none_known (step_known (known_at first_coin.state) (side []) []) true;
          falses = one_known (step_known (known_at first_coin.state) (side []) []) false 0 refl;
        },
      ),
      tt,
    ),
  );
  covers = omega arith;
}

pub rows_pass : (row : GroundRow) → Contains rows row → IsGroundRow coins rows row
rows_pass = of_three (IsGroundRow coins rows) done then_second first_coin done_passes second_passes first_passes

-- ---- layers

tails_within : (v : List Bool) → at_tails v ≤ 5
tails_within [] = omega arith
tails_within (true ∷ v) = omega arith
tails_within (false ∷ []) = omega arith
tails_within (false ∷ b ∷ v) = omega arith

module _ (coin : ℕ) where
  step_passes : GroundAction → Type 0
  step_passes a = touches (coin ∷ []) a ≡ true → at_tails (false ∷ []) * a.den ≤ paid_by group (coin_layer coin) a (false ∷ [])

  each_value : (a : GroundAction) (v : List Bool) → at_tails (false ∷ []) * a.den ≤ paid_by group (coin_layer coin) a (false ∷ [])
      → at_tails v * a.den ≤ paid_by group (coin_layer coin) a v
  each_value a [] pays = omega arith
  each_value a (true ∷ v) pays = omega arith
  each_value a (false ∷ []) pays = pays
  each_value a (false ∷ b ∷ v) pays = omega arith

  layer_passes : ((v : List Bool) → is_not_false (kleene (known_by (coin ∷ []) v) both_heads) ≡ true → at_tails v ≡ 0)
      → ((a : GroundAction) → Contains coins.actions a → step_passes a)
      → IsGroundLayer coins group (coin_layer coin)
  unfolding step_passes
  layer_passes ends steps = record {
    within_penalty = tails_within;
    at_goal = ends;
    within_step = λ a inside v closed opens touched. each_value a v (steps a inside touched);
  }

first_ends : (v : List Bool) → is_not_false (kleene (known_by (0 ∷ []) v) both_heads) ≡ true → at_tails v ≡ 0
unfolding shape-the_row-GroundCondition-0 hidden-the_row-GroundCondition-0 hidden-the_row-GroundCondition-1 hidden
first_ends [] may = refl
first_ends (true ∷ v) may = refl
first_ends (false ∷ []) may = absurd cc
first_ends (false ∷ b ∷ v) may = refl

second_ends : (v : List Bool) → is_not_false (kleene (known_by (1 ∷ []) v) both_heads) ≡ true → at_tails v ≡ 0
unfolding shape-the_row-GroundCondition-0 hidden-the_row-GroundCondition-0 hidden-the_row-GroundCondition-1 hidden
second_ends [] may = refl
second_ends (true ∷ v) may = refl
second_ends (false ∷ []) may = absurd cc
second_ends (false ∷ b ∷ v) may = refl

first_layer : IsGroundLayer coins group (coin_layer 0)
unfolding step_passes
first_layer = layer_passes 0 first_ends (of_two (step_passes 0) (flip 0) (flip 1) (λ _. omega arith) (λ touched. absurd cc))

second_layer : IsGroundLayer coins group (coin_layer 1)
unfolding step_passes
second_layer = layer_passes 1 second_ends (of_two (step_passes 1) (flip 0) (flip 1) (λ touched. absurd cc) (λ _. omega arith))

pub group_passes : IsGroundGroup coins group
group_passes = record {
  is_layer = of_two (IsGroundLayer coins group) (coin_layer 0) (coin_layer 1) first_layer second_layer;
  penalties = omega arith;
}
