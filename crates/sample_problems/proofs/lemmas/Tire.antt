-- The tire problem is a ground problem: its parts are tested by computation.
use Rattle.std.proofs.Common.{◌≡◌, ℕ, ◌<◌, true, List, [], ◌∷◌, refl, arith}
use Rattle.std.specs.Prelude.{◌≢◌, Bool, false, not, ◌&&◌, nat_eq, nat_lt, All, AllPairs, IsTrue, codes}
use Rattle.std.specs.Cmp.Lexicographic.{other_text, pointwise}
use Rattle.std.specs.List.{list_all}
use Rattle.std.specs.Ordering.{nat_cmp}
use Rattle.std.proofs.lemmas.Bool.{and_parts, ltb-true}
use Rattle.std.proofs.lemmas.List.Elements.{All-nil, All-cons, All-weaker}
use Rattle.std.proofs.lemmas.List.Kept.{AllPairs-cons}
use Rattle.std.proofs.lemmas.List.Sums.{AllPass-from_list_all}
use denote.Hole.Carrier.{hidden}
use Rattle.plain_list.specs.Texts.{rises}
use Rattle.ground_model.specs.declared.action.Choice.{Choice}
use Rattle.ground_model.specs.declared.action.GroundAction.{GroundAction}
use Rattle.ground_model.specs.declared.condition.GroundCondition.TheBlock.{shape-the_row-GroundCondition-0}
use Rattle.ground_model.specs.declared.condition.GroundCondition.TheBlock.{hidden-the_row-GroundCondition-0}
use Rattle.ground_model.specs.declared.condition.GroundCondition.TheBlock.{hidden-the_row-GroundCondition-1}
use Rattle.ground_model.specs.declared.start.Start.{Start}
use Rattle.ground_model.specs.Choices.{is_member}
use Rattle.ground_model.specs.Truth.{atoms_in}
use Rattle.ground_model.specs.Invariant.{AllBelow, IsGuarded, IsChoice, IsAction, IsInside, IsGroundProblem}
use Rattle.sample_problems.specs.Tire.{actions, atoms, begins, both, change, move, outcome, tire}
use Rattle.sample_problems.specs.Tire.{to_second, to_third, change_first, change_second, change_third}

-- ---- tests of parts

all_below : (n : ℕ) (atoms : List ℕ) → list_all (λ q. nat_lt q n) atoms ≡ true → AllBelow n atoms
all_below n atoms test =
    All-weaker (λ q. nat_lt q n ≡ true) (λ q. q < n) (λ q e. ltb-true q n e) atoms
    (AllPass-from_list_all (λ q. nat_lt q n) atoms test)

one_of : {X : Type 0} (P : X → Type 0) (x : X) → P x → All P (x ∷ [])
one_of P x holds = All-cons P x [] holds (All-nil P)

two_of : {X : Type 0} (P : X → Type 0) (x y : X) → P x → P y → All P (x ∷ y ∷ [])
two_of P x y first second = All-cons P x (y ∷ []) first (one_of P y second)

abbrev are_apart : List GroundAction → Bool
are_apart [] = true
are_apart (a ∷ rest) =
    list_all (λ (b : GroundAction). not (pointwise nat_eq a.name b.name)) rest && are_apart rest

not_true : (b : Bool) → not b ≡ true → false ≡ b
not_true true e = absurd cc
not_true false e = refl

names_apart : (list : List GroundAction) → are_apart list ≡ true
    → AllPairs (λ (a b : GroundAction). a.name ≢ b.name) list
names_apart [] test = λ i j d before within. absurd (omega arith)
names_apart (a ∷ rest) test =
    let other : GroundAction → Bool = λ b. not (pointwise nat_eq a.name b.name) in
    let parts = and_parts (list_all other rest) (are_apart rest) test in
    AllPairs-cons (λ (a b : GroundAction). a.name ≢ b.name) a rest
    (All-weaker (λ b. other b ≡ true) (λ b. a.name ≢ b.name)
    (λ b e. other_text a.name b.name (not_true (pointwise nat_eq a.name b.name) e)) rest
    (AllPass-from_list_all other rest parts.0))
    (names_apart rest parts.1)

-- ---- outcomes and actions

outcome_is_choice : (adds deletes : List ℕ) → IsTrue (rises nat_cmp adds)
    → list_all (λ q. nat_lt q 7) adds ≡ true → IsTrue (rises nat_cmp deletes)
    → list_all (λ q. nat_lt q 7) deletes ≡ true
    → IsTrue (list_all (λ q. not (is_member deletes q)) adds) → IsChoice 7 (outcome adds deletes)
outcome_is_choice adds deletes adds_rise adds_below deletes_rise deletes_below disjoint = record {
  literals = record {
    adds_rise = adds_rise;
    adds_below = all_below 7 adds adds_below;
    deletes_rise = deletes_rise;
    deletes_below = all_below 7 deletes deletes_below;
    disjoint = disjoint;
  };
  guarded = All-nil (IsGuarded 7);
  cost_above = omega arith;
  cost_within = omega arith;
}

both_below : (p q : ℕ) → p < 7 → q < 7 → AllBelow 7 (atoms_in (both p q))
unfolding shape-the_row-GroundCondition-0 hidden-the_row-GroundCondition-0 hidden-the_row-GroundCondition-1 hidden
both_below p q first second = two_of (λ q. q < 7) p q first second

move_is_action : (name : List ℕ) (from to : ℕ) → from < 7 → IsChoice 7 (outcome (to ∷ []) (from ∷ []))
    → IsChoice 7 (outcome (to ∷ []) (0 ∷ from ∷ [])) → IsAction 7 (move name from to)
move_is_action name from to below stays flat = record {
  condition = both_below from 0 below (omega arith);
  weights = record {
    positive = two_of (λ (c : Choice). 0 < c.weight) (outcome (to ∷ []) (from ∷ []))
        (outcome (to ∷ []) (0 ∷ from ∷ [])) (omega arith) (omega arith);
    sum = refl;
    den_above = omega arith;
    den_within = omega arith;
  };
  choices = two_of (IsChoice 7) (outcome (to ∷ []) (from ∷ [])) (outcome (to ∷ []) (0 ∷ from ∷ []))
      stays flat;
  count = omega arith;
}

change_is_action : (name : List ℕ) (spare car : ℕ) → spare < 7 → car < 7
    → IsChoice 7 (outcome (0 ∷ []) (spare ∷ [])) → IsAction 7 (change name spare car)
change_is_action name spare car spare_below car_below changes = record {
  condition = both_below spare car spare_below car_below;
  weights = record {
    positive = one_of (λ (c : Choice). 0 < c.weight) (outcome (0 ∷ []) (spare ∷ [])) (omega arith);
    sum = refl;
    den_above = omega arith;
    den_within = omega arith;
  };
  choices = one_of (IsChoice 7) (outcome (0 ∷ []) (spare ∷ [])) changes;
  count = omega arith;
}

are_actions : All (IsAction 7) actions
unfolding actions
are_actions =
    All-cons (IsAction 7) to_second (to_third ∷ change_first ∷ change_second ∷ change_third ∷ [])
    (move_is_action (codes "(move-car l1 l2)") 4 5 (omega arith)
    (outcome_is_choice (5 ∷ []) (4 ∷ []) refl refl refl refl refl)
    (outcome_is_choice (5 ∷ []) (0 ∷ 4 ∷ []) refl refl refl refl refl))
    (All-cons (IsAction 7) to_third (change_first ∷ change_second ∷ change_third ∷ [])
    (move_is_action (codes "(move-car l2 l3)") 5 6 (omega arith)
    (outcome_is_choice (6 ∷ []) (5 ∷ []) refl refl refl refl refl)
    (outcome_is_choice (6 ∷ []) (0 ∷ 5 ∷ []) refl refl refl refl refl))
    (All-cons (IsAction 7) change_first (change_second ∷ change_third ∷ [])
    (change_is_action (codes "(changetire l1)") 1 4 (omega arith) (omega arith)
    (outcome_is_choice (0 ∷ []) (1 ∷ []) refl refl refl refl refl))
    (two_of (IsAction 7) change_second change_third
    (change_is_action (codes "(changetire l2)") 2 5 (omega arith) (omega arith)
    (outcome_is_choice (0 ∷ []) (2 ∷ []) refl refl refl refl refl))
    (change_is_action (codes "(changetire l3)") 3 6 (omega arith) (omega arith)
    (outcome_is_choice (0 ∷ []) (3 ∷ []) refl refl refl refl refl)))))

pub tire_is_ground_problem : IsGroundProblem tire
unfolding atoms actions
tire_is_ground_problem = record {
  atoms_rise = refl;
  atoms_count = omega arith;
  penalty_above = omega arith;
  penalty_within = omega arith;
  starts_weights = record {
    positive = one_of (λ (x : Start). 0 < x.weight) (record { weight = 1; state = begins }) (omega arith);
    sum = refl;
    den_above = omega arith;
    den_within = omega arith;
  };
  starts_inside = one_of (IsInside 7) (record { weight = 1; state = begins }) refl;
  starts_differ = λ i j d before within. absurd (omega arith);
  starts_count = omega arith;
  goal = one_of (λ q. q < 7) 6 (omega arith);
  actions = are_actions;
  names_differ = names_apart actions refl;
  actions_count = omega arith;
}
