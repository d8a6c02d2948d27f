-- Where joint choices lead: next states and costs, and those of a step.
use Rattle.std.proofs.Common.{◌≡◌, ℕ, suc, ◌+◌, ◌*◌, ◌^◌, ◌<◌, Bool, true, false, cond, not, ◌&&◌, ◌||◌}
use Rattle.std.proofs.Common.{List, [], ◌∷◌, ◌++◌, length, refl, sym, ap, subst, inl, inr, ◌∙◌, arith}
use Rattle.std.specs.Prelude.{◌≢◌, nat_eq, All, AllPairs, IsTrue, slice_index_or}
use Rattle.std.specs.List.{list_any}
use Rattle.std.proofs.lemmas.Bool.{cases_Bool, cases_order, eqb-true, eqb-false}
use Rattle.std.proofs.lemmas.List.Elements.{All-nil, All-append, All-head, All-tail, All-contains}
use Rattle.std.proofs.lemmas.List.Folds.{list_any_at, list_any_none}
use Rattle.plain_list.proofs.lemmas.weighted.Totals.{total-same}
use Rattle.ppddl_model.specs.State.{GroundAtom, same_atom, State, has, union, without}
use Rattle.ppddl_model.specs.Objects.{World}
use Rattle.ppddl_model.specs.Denominator.{draws}
use Rattle.ppddl_model.specs.Outcomes.{Entry, outcomes}
use Rattle.ppddl_model.specs.Steps as task
use Rattle.ppddl_model.proofs.States.{same_atom-Decides, has-union, has-without, same_from_has}
use Rattle.ground_model.specs.declared.action.Choice.{Choice}
use Rattle.ground_model.specs.declared.action.Guarded.{Guarded}
use Rattle.ground_model.specs.Packed as packed
use Rattle.ground_model.specs.Packed.{has_bit, is_inside}
use Rattle.ground_model.specs.Truth.{truth}
use Rattle.ground_model.specs.Choices.{is_member, active_adds, active_deletes, next_state, cost_of}
use Rattle.ground_model.specs.Invariant.{AllBelow, IsGuarded, IsChoice}
use Rattle.ground_model.proofs.Next.{has_bit-next}
use Rattle.ground_meaning.specs.choices.Numbering.{Numbering}
use Rattle.ground_meaning.specs.choices.Joint.{joint}
use Rattle.ground_meaning.specs.choices.Change.{Change, name_of, atoms_at, change_of, entry_change, IsView}
use Rattle.ground_meaning.specs.choices.Laws.{JointIsNext}
use Rattle.ground_meaning.proofs.lemmas.choices.Changes.{tells, has-atoms_at}
use Rattle.ground_meaning.proofs.lemmas.choices.Reduced.{joint_law}

chosen_below : (n : ℕ) (b : Bool) (atoms : List ℕ) → AllBelow n atoms → AllBelow n (cond b atoms [])
chosen_below n true atoms below = below
chosen_below n false atoms below = All-nil (λ z. z < n)

module _ (bit : ℕ → Bool) (n : ℕ) where
  adds_below : (parts : List Guarded) → All (IsGuarded n) parts → AllBelow n (active_adds bit parts)
  adds_below [] each = All-nil (λ z. z < n)
  adds_below (x ∷ parts) each =
      All-append (λ z. z < n) (cond (truth bit x.condition) x.adds []) (active_adds bit parts)
      (chosen_below n (truth bit x.condition) x.adds (All-head (IsGuarded n) x parts each).literals.adds_below)
      (adds_below parts (All-tail (IsGuarded n) x parts each))

  deletes_below : (parts : List Guarded) → All (IsGuarded n) parts → AllBelow n (active_deletes bit parts)
  deletes_below [] each = All-nil (λ z. z < n)
  deletes_below (x ∷ parts) each =
      All-append (λ z. z < n) (cond (truth bit x.condition) x.deletes []) (active_deletes bit parts)
      (chosen_below n (truth bit x.condition) x.deletes (All-head (IsGuarded n) x parts each).literals.deletes_below)
      (deletes_below parts (All-tail (IsGuarded n) x parts each))

-- ---- atoms by their numbers

module _ (order : List GroundAtom) (differ : AllPairs (λ x y. x ≢ y) order) where
  same_place : (k j : ℕ) → k < length order → j < length order → name_of order k ≡ name_of order j → k ≡ j
  same_place k j below below' same = elim (cases_order k j) [
    | inl e ↦ e
    | inr (inl before) ↦ absurd (differ k j [] before below' same)
    | inr (inr behind) ↦ absurd (differ j k [] behind below (sym same))
  ]

  tells_at : (k j : ℕ) → k < length order → j < length order → tells order (name_of order k) j ≡ nat_eq k j
  tells_at k j below below' = elim (cases_Bool (nat_eq k j)) [
    | inl e ↦ (same_atom-Decides (name_of order k) (name_of order j)).1 (ap (name_of order) (eqb-true k j e)) ∙ sym e
    | inr e ↦ elim (cases_Bool (tells order (name_of order k) j)) [
      | inl found ↦ absurd (eqb-false k j e (same_place k j below below' ((same_atom-Decides (name_of order k) (name_of order j)).0 found)))
      | inr none ↦ none ∙ sym e
    ]
  ]

  any_at : (k : ℕ) → k < length order → (ks : List ℕ) → AllBelow (length order) ks
      → list_any (tells order (name_of order k)) ks ≡ is_member ks k
  any_at k below [] each = refl
  any_at k below (j ∷ ks) each =
      ap (λ b. b || list_any (tells order (name_of order k)) ks)
      (tells_at k j below (All-head (λ z. z < length order) j ks each))
      ∙ ap (λ b. nat_eq k j || b) (any_at k below ks (All-tail (λ z. z < length order) j ks each))

  tells_none : (q : GroundAtom) → list_any (same_atom q) order ≡ false → (j : ℕ) → j < length order → tells order q j ≡ false
  tells_none q none j below = elim (cases_Bool (tells order q j)) [
    | inl found ↦ absurd (cc (sym none ∙ list_any_at (same_atom q) order j [] below found))
    | inr e ↦ e
  ]

  any_none : (q : GroundAtom) → list_any (same_atom q) order ≡ false → (ks : List ℕ) → AllBelow (length order) ks
      → list_any (tells order q) ks ≡ false
  any_none q none ks each = list_any_none (tells order q) ks (λ k x below. tells_none q none _ (each k x below))

-- the place of an atom that is found
place_of : (xs : List GroundAtom) (q : GroundAtom) → list_any (same_atom q) xs ≡ true
    → (k : ℕ) × (k < length xs) × (slice_index_or xs k [] ≡ q)
place_of [] q found = absurd cc
place_of (x ∷ xs) q found = elim (cases_Bool (same_atom q x)) [
  | inl here ↦ (0, omega arith, sym ((same_atom-Decides q x).0 here))
  | inr other ↦
      let later = place_of xs q (sym (ap (λ b. b || list_any (same_atom q) xs) other) ∙ found) in
      (suc later.0, omega (arith, later.1), later.2)
]

-- ---- the state after a choice

or_and_not : (a b d : Bool) → (a || (b && not d)) ≡ (a || (b && not (d && not a)))
or_and_not true b d = refl
or_and_not false b true = refl
or_and_not false b false = refl

and_not_none : (b d : Bool) → d ≡ false → b ≡ (b && not (d && true))
and_not_none true d none = rw none refl
and_not_none false d none = refl

module _ (order : List GroundAtom) (differ : AllPairs (λ x y. x ≢ y) order) (view : packed.State → State) (is : IsView order view) where
  module _ (s : packed.State) (inside : IsTrue (is_inside (length order) s)) where
    abbrev here : ℕ → Bool
    here = has_bit s

    -- the state after a change
    abbrev led : Change → State
    led y = union y.adds (without (view s) y.deletes)

    has-led : (y : Change) (q : GroundAtom) → has (led y) q ≡ (has y.adds q || (has (view s) q && not (has y.deletes q)))
    has-led y q =
        has-union y.adds (without (view s) y.deletes) q ∙ ap (λ b. has y.adds q || b) (has-without (view s) y.deletes q)

    module _ (c : Choice) (fits : IsChoice (length order) c) where
      abbrev all_adds : List ℕ
      all_adds = c.adds ++ active_adds here c.guarded

      abbrev all_deletes : List ℕ
      all_deletes = c.deletes ++ active_deletes here c.guarded

      all_adds_below : AllBelow (length order) all_adds
      all_adds_below =
          All-append (λ z. z < length order) c.adds (active_adds here c.guarded) fits.literals.adds_below
          (adds_below here (length order) c.guarded fits.guarded)

      all_deletes_below : AllBelow (length order) all_deletes
      all_deletes_below =
          All-append (λ z. z < length order) c.deletes (active_deletes here c.guarded) fits.literals.deletes_below
          (deletes_below here (length order) c.guarded fits.guarded)

      changed : (q : GroundAtom) → has (led (change_of order here c)) q
          ≡ (list_any (tells order q) all_adds
          || (has (view s) q && not (list_any (tells order q) all_deletes && not (list_any (tells order q) all_adds))))
      changed q =
          has-led (change_of order here c) q
          ∙ ap (λ b. has (atoms_at order all_adds) q || (has (view s) q && not b))
          (has-without (atoms_at order all_deletes) (atoms_at order all_adds) q)
          ∙ ap (λ b. b || (has (view s) q && not (has (atoms_at order all_deletes) q && not b))) (has-atoms_at order all_adds q)
          ∙ ap (λ b. list_any (tells order q) all_adds || (has (view s) q && not (b && not (list_any (tells order q) all_adds))))
          (has-atoms_at order all_deletes q)

      at_number : (k : ℕ) → k < length order
          → has (view (next_state s c)) (name_of order k) ≡ has (led (change_of order here c)) (name_of order k)
      at_number k below =
          let q : GroundAtom = name_of order k in
          let adds : list_any (tells order q) all_adds ≡ is_member all_adds k = any_at order differ k below all_adds all_adds_below in
          let deletes : list_any (tells order q) all_deletes ≡ is_member all_deletes k = any_at order differ k below all_deletes all_deletes_below in
          is.numbered (next_state s c) k below ∙ has_bit-next (length order) c fits s inside k
          ∙ or_and_not (is_member all_adds k) (has_bit s k) (is_member all_deletes k)
          ∙ ap (λ b. is_member all_adds k || (b && not (is_member all_deletes k && not (is_member all_adds k)))) (sym (is.numbered s k below))
          ∙ ap (λ b. b || (has (view s) q && not (is_member all_deletes k && not b))) (sym adds)
          ∙ ap (λ b. list_any (tells order q) all_adds || (has (view s) q && not (b && not (list_any (tells order q) all_adds)))) (sym deletes)
          ∙ sym (changed q)

      elsewhere : (q : GroundAtom) → list_any (same_atom q) order ≡ false
          → has (view (next_state s c)) q ≡ has (led (change_of order here c)) q
      elsewhere q none =
          is.others (next_state s c) s q none
          ∙ and_not_none (has (view s) q) (list_any (tells order q) all_deletes) (any_none order differ q none all_deletes all_deletes_below)
          ∙ ap (λ b. b || (has (view s) q && not (list_any (tells order q) all_deletes && not b)))
          (sym (any_none order differ q none all_adds all_adds_below))
          ∙ sym (changed q)

      pub view_next : view (next_state s c) ≡ led (change_of order here c)
      view_next = same_from_has (view (next_state s c)) (led (change_of order here c)) (λ q. elim (cases_Bool (list_any (same_atom q) order)) [
        | inl found ↦
            let place = place_of order q found in
            subst (λ x. has (view (next_state s c)) x ≡ has (led (change_of order here c)) x) place.2 (at_number place.0 place.1)
        | inr none ↦ elsewhere q none
      ])

    entry_led : (base : ℕ) (x : Entry) → led (entry_change base x) ≡ task.after (view s) x
    entry_led base x = same_from_has (led (entry_change base x)) (task.after (view s) x)
        (λ q. has-led (entry_change base x) q
        ∙ ap (λ b. has x.adds q || (has (view s) q && not b)) (has-without x.deletes x.adds q)
        ∙ sym (has-union x.adds (without (view s) x.deletes) q ∙ ap (λ b. has x.adds q || b) (has-without (view s) x.deletes q)
        ∙ or_and_not (has x.adds q) (has (view s) q) (has x.deletes q)))

pub next_law : (w : World) (n : Numbering) → JointIsNext w n
next_law w n order differ view is s inside e fair den divide b describes base fit v =
    let j = joint w n e b base in
    let v' : Change → ℕ = λ y. v (led order differ view is s inside y, y.cost) in
    let es : List Entry = outcomes w den e b (view s) in
    ap (λ t. t * den ^ draws w e)
    (total-same (λ (c : Choice). c.weight * v (view (next_state s c), cost_of (has_bit s) c))
    (λ (c : Choice). c.weight * v' (change_of order (has_bit s) c)) j.list
    (λ c within. ap (λ x. c.weight * v (x, cost_of (has_bit s) c))
    (view_next order differ view is s inside c (All-contains (IsChoice (length order)) j.list c fit within))))
    ∙ joint_law w n order (has_bit s) (view s) e fair den divide b describes base v'
    ∙ ap (λ t. t * j.den)
    (total-same (λ (x : Entry). x.weight * v' (entry_change base x))
    (λ (x : Entry). x.weight * v (task.after (view s) x, x.cost + base)) es
    (λ x _. ap (λ y. x.weight * v (y, x.cost + base)) (entry_led order differ view is s inside base x)))
