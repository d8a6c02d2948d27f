-- Layers of a ground problem: the projection keeps goals, open actions and steps, and a layer that passes its test is one.
use Rattle.std.proofs.Common.{◌≡◌, ℕ, ◌+◌, ◌*◌, ◌/◌, ◌<◌, ◌≤◌, min, Bool, true, false, cond, ◌||◌, List, [], ◌∷◌, map, filter, length, Option, None, Some, refl, sym, ap, subst, inl, inr, ◌∙◌, arith}
use Rattle.std.specs.Prelude.{All, Contains, IsTrue}
use Rattle.std.specs.List.{slice_get, list_any, range_with_len}
use Rattle.std.proofs.lemmas.Bool.{cases_Bool}
use Rattle.std.proofs.lemmas.List.Elements.{All-head, All-tail, All-contains, filter_passes}
use Rattle.std.proofs.Math.Nat.{mul_assoc, mul-le-mul_right}
use Rattle.plain_list.specs.weighted.Mean.{total}
use Rattle.plain_list.proofs.lemmas.weighted.Totals.{total-map}
use Rattle.plain_list.proofs.Members.{Contains-cons_cases, Contains-nil, Contains-map, Contains-map_cases}
use Rattle.decision_process.specs.Process.{Outcome, min_with}
use Rattle.balanced_pair.specs.layers.Layers.{Layer, WithinCosts, paid, Sees, IsProjection, IsLayer, IsGroup}
use Rattle.balanced_pair.proofs.lemmas.layers.Groups.{layers_are_sub_solution}
use Rattle.ground_model.specs.declared.action.Choice.{Choice}
use Rattle.ground_model.specs.declared.action.GroundAction.{GroundAction}
use Rattle.ground_model.specs.Packed.{State, has_bit, is_inside}
use Rattle.ground_model.specs.Truth.{truth}
use Rattle.ground_model.specs.Choices.{after, next_state}
use Rattle.ground_model.specs.Ground.{Ground}
use Rattle.ground_model.specs.Invariant.{IsChoice, IsAction, IsGroundProblem}
use Rattle.ground_model.specs.Steps.{den_of, is_open_at, is_open, outcome_of, step_at, ground_process}
use Rattle.ground_model.proofs.Next.{next_inside, has_bit-next}
use Rattle.ground_model.proofs.Steps.{times_rest, slice_get-contains, den_above, has_denominator}
use Rattle.partial_states.specs.Known.{kleene}
use Rattle.partial_states.specs.Steps.{touched}
use Rattle.partial_states.specs.ground_layers.GroundLayers.{GroundLayer, atoms_of, truths_of, known_by, next_truths, touches_by, touches, share_of, shares_of, paid_by, project, branch_of, low_of, may_end_of, may_open_of, touches_of, branches_of, share_at, layer_of, IsGroundLayer, layers_of, IsGroundGroup}
use Rattle.partial_states.specs.ground_layers.Laws as laws
use Rattle.partial_states.proofs.Facts.{known_holds}
use Rattle.partial_states.proofs.lemmas.ground_layers.Members.{same_truths_of}
use Rattle.partial_states.proofs.lemmas.ground_layers.Truths.{may_be, truths_admit, truths_stay, truths_come}
use Rattle.partial_states.proofs.lemmas.ground_layers.Shares.{within_same, shares_within}

-- ---- the projection of a layer

found_open : (found : Option GroundAction) (s : State) → is_open_at found s ≡ true → (a : GroundAction) × (found ≡ Some a)
found_open None s opens = absurd cc
found_open (Some a) s opens = (a, refl)

or_false : (a b : Bool) → (a || b) ≡ false → (a ≡ false) × (b ≡ false)
or_false true b e = absurd cc
or_false false b e = (refl, e)

none_of : {X : Type 0} (p : X → Bool) (xs : List X) (x : X) → list_any p xs ≡ false → Contains xs x → p x ≡ false
none_of p [] x none inside = absurd (Contains-nil x inside)
none_of p (y ∷ xs) x none inside =
    let parts : (p y ≡ false) × (list_any p xs ≡ false) = or_false (p y) (list_any p xs) none in
    elim (Contains-cons_cases y xs x inside) [
      | inl same ↦ ap p (sym same) ∙ parts.0
      | inr later ↦ none_of p xs x parts.1 later
    ]

min_with-map : {X Y : Type 0} (top : ℕ) (f : Y → ℕ) (h : X → Y) (xs : List X)
    → min_with top f (map h xs) ≡ min_with top (λ x. f (h x)) xs
min_with-map top f h [] = refl
min_with-map top f h (x ∷ xs) = ap (λ m. min (f (h x)) m) (min_with-map top f h xs)

scaled_part : (w scale part rest : ℕ) → w * scale * part + rest * scale ≡ (w * part + rest) * scale
scaled_part w scale part rest = grind arith

module _ (n : ℕ) (atoms : List ℕ) (s : State) where
  project_inside : IsTrue (is_inside n s) → project n atoms s ≡ Some (truths_of atoms (has_bit s))
  project_inside inside = ap (λ b. cond b (Some (truths_of atoms (has_bit s))) None) inside

  project_outside : is_inside n s ≡ false → project n atoms s ≡ None
  project_outside outside = ap (λ b. cond b (Some (truths_of atoms (has_bit s))) None) outside

module _ (n : ℕ) (atoms : List ℕ) (s : State) (inside : IsTrue (is_inside n s)) where
  project_next : (c : Choice) → IsChoice n c → project n atoms (next_state s c) ≡ Some (truths_of atoms (after (has_bit s) c))
  project_next c is =
      project_inside n atoms (next_state s c) (next_inside n c is s inside)
      ∙ ap Some (same_truths_of (has_bit (next_state s c)) (after (has_bit s) c) atoms (λ q _. has_bit-next n c is s inside q))

  choice_stays : (c : Choice) → IsChoice n c → touches_by atoms c ≡ false → project n atoms (next_state s c) ≡ project n atoms s
  choice_stays c is apart =
      project_next c is ∙ ap Some (truths_stay (has_bit s) atoms c apart) ∙ sym (project_inside n atoms s inside)

  choice_comes : (c : Choice) → IsChoice n c
      → Contains (map (λ w. Some w) (next_truths atoms (truths_of atoms (has_bit s)) c)) (project n atoms (next_state s c))
  choice_comes c is =
      subst (λ w. Contains (map (λ w. Some w) (next_truths atoms (truths_of atoms (has_bit s)) c)) w) (sym (project_next c is))
      (Contains-map (λ w. Some w) (next_truths atoms (truths_of atoms (has_bit s)) c) (truths_of atoms (after (has_bit s) c))
      (truths_come (has_bit s) atoms c))

-- ---- the layers of a problem

module _ (g : Ground) (is : IsGroundProblem g) (group : List GroundLayer) where
  action_of_code : (k : ℕ) (s : State) → Contains ((ground_process g).choices s) k
      → (a : GroundAction) × (slice_get g.actions k ≡ Some a) × (truth (has_bit s) a.condition ≡ true)
  action_of_code k s listed =
      let opens : is_open g k s ≡ true
      = All-contains (λ j. is_open g j s ≡ true) (filter (λ j. is_open g j s) (range_with_len 0 (length g.actions))) k
      (filter_passes (λ j. is_open g j s) (range_with_len 0 (length g.actions))) listed in
      let found : (a : GroundAction) × (slice_get g.actions k ≡ Some a) = found_open (slice_get g.actions k) s opens in
      (found.0, found.1, ap (λ f. is_open_at f s) (sym found.1) ∙ opens)

  choices_are : (a : GroundAction) → Contains g.actions a → All (IsChoice (length g.atoms)) a.choices
  choices_are a member = (All-contains (IsAction (length g.atoms)) g.actions a is.actions member).choices

  module _ (l : GroundLayer) where
    worth_inside : (s : State) → 0 < low_of l (project (length g.atoms) (atoms_of l) s) → IsTrue (is_inside (length g.atoms) s)
    worth_inside s positive = elim (cases_Bool (is_inside (length g.atoms) s)) [
      | inl inside ↦ inside
      | inr outside ↦ absurd (omega (arith, positive, ap (low_of l) (project_outside (length g.atoms) (atoms_of l) s outside)))
    ]

    sees_each : (s : State) → IsTrue (is_inside (length g.atoms) s) → (scale : ℕ) (choices : List Choice)
        → All (IsChoice (length g.atoms)) choices
        → Sees (layer_of g group l) (map (branch_of (atoms_of l) (truths_of (atoms_of l) (has_bit s)) scale) choices)
        (map (outcome_of scale s) choices)
    sees_each s inside scale [] each = tt
    sees_each s inside scale (c ∷ choices) each = (
      refl,
      choice_comes (length g.atoms) (atoms_of l) s inside c (All-head (IsChoice (length g.atoms)) c choices each),
      sees_each s inside scale choices (All-tail (IsChoice (length g.atoms)) c choices each),
    )

    layer_projects : IsProjection (ground_process g) (layer_of g group l)
    layer_projects = record {
      goals = λ s on. elim (cases_Bool (is_inside (length g.atoms) s)) [
        | inl inside ↦
            subst (λ v. may_end_of g l v ≡ true) (sym (project_inside (length g.atoms) (atoms_of l) s inside))
            (may_be (kleene (known_by (atoms_of l) (truths_of (atoms_of l) (has_bit s))) g.goal) (truth (has_bit s) g.goal)
            (known_holds (has_bit s) (known_by (atoms_of l) (truths_of (atoms_of l) (has_bit s))) (truths_admit (atoms_of l) (has_bit s)) g.goal)
            on)
        | inr outside ↦
            subst (λ v. may_end_of g l v ≡ true) (sym (project_outside (length g.atoms) (atoms_of l) s outside)) refl
      ];
      actions = λ k s positive off listed.
          let inside : IsTrue (is_inside (length g.atoms) s) = worth_inside s positive in
          let found = action_of_code k s listed in
          let a : GroundAction = found.0 in
          let member : Contains g.actions a = slice_get-contains g.actions k a found.1 in
          record {
            opens =
                subst (λ v. may_open_of l (slice_get g.actions k) v ≡ true) (sym (project_inside (length g.atoms) (atoms_of l) s inside))
                (subst (λ f. may_open_of l f (Some (truths_of (atoms_of l) (has_bit s))) ≡ true) (sym found.1)
                (may_be (kleene (known_by (atoms_of l) (truths_of (atoms_of l) (has_bit s))) a.condition) (truth (has_bit s) a.condition)
                (known_holds (has_bit s) (known_by (atoms_of l) (truths_of (atoms_of l) (has_bit s))) (truths_admit (atoms_of l) (has_bit s)) a.condition)
                found.2));
            leaves = λ untouched o there.
                let apart : touches (atoms_of l) a ≡ false = ap (touches_of l) (sym found.1) ∙ untouched in
                let mapped : Contains (map (outcome_of (den_of g.actions / a.den) s) a.choices) o
                = subst (λ f. Contains (step_at (den_of g.actions) f s) o) found.1 there in
                let choice = Contains-map_cases (outcome_of (den_of g.actions / a.den) s) a.choices o mapped in
                subst (λ (x : Outcome State). project (length g.atoms) (atoms_of l) x.next ≡ project (length g.atoms) (atoms_of l) s) choice.2
                (choice_stays (length g.atoms) (atoms_of l) s inside choice.0
                (All-contains (IsChoice (length g.atoms)) a.choices choice.0 (choices_are a member) choice.1)
                (none_of (touches_by (atoms_of l)) a.choices choice.0 apart choice.1));
            sees = λ touched.
                subst (λ v. Sees (layer_of g group l) (branches_of (den_of g.actions) l (slice_get g.actions k) v) (step_at (den_of g.actions) (slice_get g.actions k) s))
                (sym (project_inside (length g.atoms) (atoms_of l) s inside))
                (subst (λ f. Sees (layer_of g group l) (branches_of (den_of g.actions) l f (Some (truths_of (atoms_of l) (has_bit s)))) (step_at (den_of g.actions) f s))
                (sym found.1) (sees_each s inside (den_of g.actions / a.den) a.choices (choices_are a member)));
          };
    }

    paid_scaled : (a : GroundAction) (v : List Bool) (scale : ℕ) (choices : List Choice)
        → paid (layer_of g group l) (shares_of group l a choices) (map (branch_of (atoms_of l) v scale) choices)
        ≡ total (λ (c : Choice). c.weight * (share_of group l a c + min_with l.penalty l.low (next_truths (atoms_of l) v c))) choices * scale
    paid_scaled a v scale [] = omega arith
    paid_scaled a v scale (c ∷ choices) =
        ap (λ m. c.weight * scale * (share_of group l a c + m)
        + paid (layer_of g group l) (shares_of group l a choices) (map (branch_of (atoms_of l) v scale) choices))
        (min_with-map l.penalty (low_of l) (λ w. Some w) (next_truths (atoms_of l) v c))
        ∙ ap (λ m. c.weight * scale * (share_of group l a c + min_with l.penalty l.low (next_truths (atoms_of l) v c)) + m)
        (paid_scaled a v scale choices)
        ∙ scaled_part c.weight scale (share_of group l a c + min_with l.penalty l.low (next_truths (atoms_of l) v c))
        (total (λ (x : Choice). x.weight * (share_of group l a x + min_with l.penalty l.low (next_truths (atoms_of l) v x))) choices)

    module _ (passes : IsGroundLayer g group l) where
      step_passes : (k : ℕ) (found : Option GroundAction) → slice_get g.actions k ≡ found → (v : Option (List Bool))
          → may_end_of g l v ≡ false → may_open_of l found v ≡ true → touches_of l found ≡ true
          → low_of l v * den_of g.actions ≤ paid (layer_of g group l) (share_at group l found) (branches_of (den_of g.actions) l found v)
      step_passes k found e None closed opens touched = absurd cc
      step_passes k None e (Some v) closed opens touched = absurd cc
      step_passes k (Some a) e (Some v) closed opens touched =
          let member : Contains g.actions a = slice_get-contains g.actions k a e in
          let scale : ℕ = den_of g.actions / a.den in
          let scaled : l.low v * a.den * scale ≤ paid_by group l a v * scale
          = mul-le-mul_right scale (passes.within_step a member v closed opens touched) in
          let whole : l.low v * a.den * scale ≡ l.low v * den_of g.actions
          = mul_assoc (l.low v) a.den scale ∙ ap (λ m. l.low v * m) (times_rest g.actions a member (den_above g is a member)) in
          omega (arith, scaled, whole, paid_scaled a v scale a.choices)

      value_within : (v : Option (List Bool)) → low_of l v ≤ l.penalty
      value_within None = omega arith
      value_within (Some v) = passes.within_penalty v

      value_at_goal : (v : Option (List Bool)) → may_end_of g l v ≡ true → low_of l v ≡ 0
      value_at_goal None on = refl
      value_at_goal (Some v) on = passes.at_goal v on

      layer_passes : IsLayer (ground_process g) (layer_of g group l)
      layer_passes = record {
        within_penalty = value_within;
        at_goal = value_at_goal;
        within_step = λ k v closed opens touched. step_passes k (slice_get g.actions k) refl v closed opens touched;
      }

  group_passes : IsGroundGroup g group → IsGroup (ground_process g) (layers_of g group)
  group_passes passes = record {
    is_projection = λ layer inside.
        let found = Contains-map_cases (layer_of g group) group layer inside in
        subst (λ x. IsProjection (ground_process g) x) found.2 (layer_projects found.0);
    is_layer = λ layer inside.
        let found = Contains-map_cases (layer_of g group) group layer inside in
        subst (λ x. IsLayer (ground_process g) x) found.2 (layer_passes found.0 (passes.is_layer found.0 found.1));
    penalties =
        omega (arith, total-map (λ (x : Layer State ℕ (Option (List Bool))). x.penalty) (layer_of g group) group, passes.penalties);
    shares = λ k s off listed.
        let found = action_of_code k s listed in
        let a : GroundAction = found.0 in
        within_same (λ i. total (λ (l : GroundLayer). share_at group l (slice_get g.actions k) i) group)
        (λ i. total (λ (x : Layer State ℕ (Option (List Bool))). x.share k i) (layers_of g group)) (step_at (den_of g.actions) (slice_get g.actions k) s)
        (λ i. sym (total-map (λ (x : Layer State ℕ (Option (List Bool))). x.share k i) (layer_of g group) group))
        (subst (λ f. WithinCosts (λ i. total (λ (l : GroundLayer). share_at group l f i) group) (step_at (den_of g.actions) f s)) (sym found.1)
        (shares_within group a (den_of g.actions / a.den) s a.choices));
  }

pub ground_layers_are_sub_solution : (g : Ground) → IsGroundProblem g → laws.GroundLayersAreSubSolution g
ground_layers_are_sub_solution g is groups each =
    layers_are_sub_solution (ground_process g) (has_denominator g is) (map (layers_of g) groups)
    (λ group inside.
    let found = Contains-map_cases (layers_of g) groups group inside in
    subst (λ x. IsGroup (ground_process g) x) found.2 (group_passes g is found.0 (each found.0 found.1)))
