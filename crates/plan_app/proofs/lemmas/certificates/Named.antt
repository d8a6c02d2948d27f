-- What the rows of a certificate say by their names is what they say by the numbers of the ground problem.
use Rattle.std.proofs.Common.{◌≡◌, ℕ, zero, suc, ◌*◌, ◌<◌, ◌≤◌, Bool, true, false, cond, ◌&&◌, List, [], ◌∷◌, ◌++◌, Option, Some, None, length, map, filter, get_or, refl, sym, ap, subst, ◌∙◌, arith, inl, inr}
use Rattle.std.specs.Prelude.{Contains, is_some, nat_eq, nat_lt, find, position}
use Rattle.std.specs.List.{slice_get, list_any, list_all, position_or_len, AllZip}
use Rattle.std.specs.Cmp.Lexicographic.{pointwise, bytes_decides}
use Rattle.std.proofs.lemmas.Bool.{cases_lt, lt-ltb, le-ltb, and_parts, eqb-true, eq-eqb}
use Rattle.std.proofs.lemmas.List.{get_or-map, get_or_past, length-map}
use Rattle.std.proofs.lemmas.List.Folds.{find_at}
use Rattle.std.proofs.lemmas.List.Quantifiers.{position-Some}
use Rattle.std.proofs.lemmas.Map.Views.{Contains-from_any}
use Rattle.std.proofs.lemmas.Option.{none-some}
use Rattle.plain_list.specs.Texts.{list_text}
use Rattle.plain_list.proofs.Members.{Contains-first, Contains-later, Contains-cons_cases, Contains-nil, Contains-map, Contains-map_cases, Contains-flat_map, Contains-flat_map_cases}
use Rattle.certificate.specs.declared.act.Act as cert
use Rattle.certificate.specs.declared.act.Act.TheVariants as acts
use Rattle.certificate.specs.Rows as rows
use Rattle.certificate.specs.Content.{Content, name_at, named_act, named_row}
use Rattle.decision_process.specs.Readings.{RowAct, Row}
use Rattle.ppddl_model.specs.declared.tree.Task.{Task}
use Rattle.ppddl_model.specs.State.{same_name, GroundAtom, State, no_atoms, with_atoms}
use Rattle.ppddl_model.specs.Changing.{kept_instances, changing_atoms, has_text, fixed_facts, state_of_texts}
use Rattle.ppddl_model.specs.Steps.{Instance, instance_name, Charges}
use Rattle.ppddl_model.proofs.States.{same_name-Decides}
use Rattle.ground_model.specs.declared.action.GroundAction.{GroundAction}
use Rattle.ground_model.specs.Choices.{is_member}
use Rattle.ground_model.specs.Packed.{has_bit, words_for}
use Rattle.ground_model.specs.Ground.{Ground}
use Rattle.ground_model.proofs.Packed.{has_bit-packed}
use Rattle.ground_step.specs.Names.{place_of, action_names}
use Rattle.ground_step.proofs.Names.{position-map}
use Rattle.ground_meaning.specs.stands.Stands.{true_texts, state_of, IsActionOf, IsGroundOf}
use Rattle.ground_meaning.proofs.lemmas.stands.Texts.{any_from, any_finds, true_text, true_text_place}
use Rattle.certificate_check.specs.Claims.{listed, number_at, numbers_of, knows, doing, taken, act_of, act_codes, atom_numbers, row_state, row_of}
use Rattle.plan_app.specs.certificates.Carried.{taking, carried_act, carried_row}
use Rattle.plan_app.specs.certificates.Named.{instance_named, act_named, row_named}
use Rattle.plan_app.specs.certificates.Laws.{NamesAreCarried}

-- ---- lists

same_tests : (a b : Bool) → (a ≡ true → b ≡ true) → (b ≡ true → a ≡ true) → a ≡ b
same_tests true b there back = sym (there refl)
same_tests false true there back = back refl
same_tests false false there back = refl

same_kept : {X : Type 0} (p q : X → Bool) (xs : List X) → ((x : X) → p x ≡ q x) → filter p xs ≡ filter q xs
same_kept p q [] same = refl
same_kept p q (x ∷ xs) same = λ j. cond (same x j) (x ∷ same_kept p q xs same j) (same_kept p q xs same j)

same_any : {X : Type 0} (p : X → Bool) (xs ys : List X) → ((x : X) → Contains xs x → Contains ys x) → ((y : X) → Contains ys y → Contains xs y)
    → list_any p xs ≡ list_any p ys
same_any p xs ys there back =
    same_tests (list_any p xs) (list_any p ys)
    (λ found. let x = any_finds p xs found in any_from p ys x.0 (there x.0 x.1) x.2)
    (λ found. let y = any_finds p ys found in any_from p xs y.0 (back y.0 y.1) y.2)

same_find : {X : Type 0} (p q : X → Bool) (xs : List X) → ((x : X) → p x ≡ q x) → find p xs ≡ find q xs
same_find p q [] same = refl
same_find p q (x ∷ xs) same = λ j. cond (same x j) (Some x) (same_find p q xs same j)

nothing_past : {X : Type 0} (xs : List X) (k : ℕ) → length xs ≤ k → slice_get xs k ≡ None
nothing_past [] k past = refl
nothing_past (x ∷ xs) zero past = absurd (omega (arith, past))
nothing_past (x ∷ xs) (suc k) past = nothing_past xs k (omega (arith, past))

-- the item in a place, if there is one
abbrev item_in : {X : Type 0} → List X → Option ℕ → Option X
item_in xs None = None
item_in xs (Some k) = slice_get xs k

find_place : {X : Type 0} (p : X → Bool) (xs : List X) → find p xs ≡ item_in xs (position p xs)
find_place p xs = find_at p xs ∙ (elim (cases_lt (position_or_len p xs) (length xs)) [
  | inl within ↦
      sym (ap (λ b. item_in xs (cond b (Some (position_or_len p xs)) None)) (lt-ltb (position_or_len p xs) (length xs) within))
  | inr past ↦
      nothing_past xs (position_or_len p xs) past
      ∙ sym (ap (λ b. item_in xs (cond b (Some (position_or_len p xs)) None)) (le-ltb (position_or_len p xs) (length xs) past))
])

-- ---- states by texts

same_texts : (task : Task) (xs ys : List (List ℕ)) → ((x : List ℕ) → Contains xs x → Contains ys x) → ((y : List ℕ) → Contains ys y → Contains xs y)
    → state_of_texts task xs ≡ state_of_texts task ys
same_texts task xs ys there back =
    ap (λ (l : List GroundAtom). with_atoms no_atoms (l ++ fixed_facts task))
    (same_kept (has_text xs) (has_text ys) (changing_atoms task) (λ a. same_any (same_name (list_text a)) xs ys there back))

listed_is : (o : Option ℕ) (q : ℕ) → Contains (listed o) q → o ≡ Some q
listed_is None q inside = absurd (Contains-nil q inside)
listed_is (Some p) q inside = elim (Contains-cons_cases p [] q inside) [
  | inl here ↦ ap Some here
  | inr later ↦ absurd (Contains-nil q later)
]

-- where a table of places has a number, the text stands there
place_at : (names texts : List (List ℕ)) (i q : ℕ) → get_or (map (place_of names) texts) i None ≡ Some q
    → (q < length names) × (get_or texts i [] ≡ get_or names q [])
place_at names texts i q is = elim (cases_lt i (length texts)) [
  | inl within ↦
      let at : place_of names (get_or texts i []) ≡ Some q = sym (get_or-map (place_of names) texts i [] None within) ∙ is in
      let found = position-Some (pointwise nat_eq (get_or texts i [])) names q [] at in
      (found.0, (bytes_decides (get_or texts i []) (get_or names q [])).0 found.1)
  | inr past ↦
      let none : get_or (map (place_of names) texts) i None ≡ None
      = get_or_past (map (place_of names) texts) i None (omega (arith, past, length-map texts (place_of names))) in
      absurd (none-some q (sym none ∙ is))
]

some_of : (o : Option ℕ) → is_some o ≡ true → (q : ℕ) × (o ≡ Some q)
some_of None is = absurd (cc is)
some_of (Some q) is = (q, refl)

each_true : (p : ℕ → Bool) (xs : List ℕ) → list_all p xs ≡ true → (x : ℕ) → Contains xs x → p x ≡ true
each_true p [] all x inside = absurd (Contains-nil x inside)
each_true p (y ∷ xs) all x inside =
    let parts = and_parts (p y) (list_all p xs) all in
    elim (Contains-cons_cases y xs x inside) [
      | inl here ↦ subst (λ z. p z ≡ true) here parts.0
      | inr later ↦ each_true p xs parts.1 x later
    ]

module _ (g : Ground) (task : Task) (c : Content) where
  abbrev names_of : rows.Row → List (List ℕ)
  names_of r = map (name_at c.atoms) r.atoms

  abbrev texts_of : rows.Row → List (List ℕ)
  texts_of r = true_texts (has_bit (row_state g c r)) g.atoms

  bit_of : (r : rows.Row) (q : ℕ) → has_bit (row_state g c r) q
      ≡ (nat_lt q (64 * words_for (length g.atoms)) && is_member (numbers_of (atom_numbers g c) r.atoms) q)
  bit_of r q = has_bit-packed (is_member (numbers_of (atom_numbers g c) r.atoms)) (words_for (length g.atoms)) q

  there : (r : rows.Row) (text : List ℕ) → Contains (texts_of r) text → Contains (names_of r) text
  there r text inside =
      let place = true_text_place (has_bit (row_state g c r)) g.atoms text inside in
      let q = place.0 in
      let parts = and_parts (nat_lt q (64 * words_for (length g.atoms))) (is_member (numbers_of (atom_numbers g c) r.atoms) q)
      (sym (bit_of r q) ∙ place.2) in
      let from = Contains-flat_map_cases (λ i. listed (number_at (atom_numbers g c) i)) r.atoms q
      (Contains-from_any (λ x y same. eqb-true x y same) q (numbers_of (atom_numbers g c) r.atoms) parts.1) in
      let at = place_at g.atoms c.atoms from.0 q (listed_is (number_at (atom_numbers g c) from.0) q from.2) in
      subst (Contains (names_of r)) (at.1 ∙ place.3) (Contains-map (name_at c.atoms) r.atoms from.0 from.1)

  back : (r : rows.Row) → knows g c r ≡ true → (text : List ℕ) → Contains (names_of r) text → Contains (texts_of r) text
  back r known text inside =
      let from = Contains-map_cases (name_at c.atoms) r.atoms text inside in
      let number = some_of (number_at (atom_numbers g c) from.0)
      (each_true (λ i. is_some (number_at (atom_numbers g c) i)) r.atoms known from.0 from.1) in
      let q = number.0 in
      let at = place_at g.atoms c.atoms from.0 q number.1 in
      let member : Contains (numbers_of (atom_numbers g c) r.atoms) q
      = Contains-flat_map (λ i. listed (number_at (atom_numbers g c) i)) r.atoms from.0 q from.1
      (subst (λ o. Contains (listed o) q) (sym number.1) (Contains-first q [])) in
      let wide : q < 64 * words_for (length g.atoms) = (let within = at.0 in omega (arith, within)) in
      let bit : has_bit (row_state g c r) q ≡ true
      = bit_of r q ∙ ap (λ b. b && is_member (numbers_of (atom_numbers g c) r.atoms) q) (lt-ltb q (64 * words_for (length g.atoms)) wide)
      ∙ any_from (nat_eq q) (numbers_of (atom_numbers g c) r.atoms) q member (eq-eqb q q refl) in
      subst (Contains (texts_of r)) (sym at.1 ∙ from.2) (true_text (has_bit (row_state g c r)) g.atoms q at.0 bit)

  state_named : (r : rows.Row) → knows g c r ≡ true → state_of g task (row_state g c r) ≡ state_of_texts task (names_of r)
  state_named r known = same_texts task (texts_of r) (names_of r) (there r) (back r known)

  module _ (charges : Charges) (is : IsGroundOf g task charges) where
    same_names : (actions : List GroundAction) (instances : List Instance) → AllZip (IsActionOf g task charges) actions instances
        → map (λ (a : GroundAction). a.name) actions ≡ map instance_name instances
    same_names [] [] zip = refl
    same_names [] (i ∷ more) zip = absurd zip
    same_names (a ∷ actions) [] zip = absurd zip
    same_names (a ∷ actions) (i ∷ more) zip =
        ap (λ n. n ∷ map (λ (b : GroundAction). b.name) actions) zip.0.name
        ∙ ap (λ l. instance_name i ∷ l) (same_names actions more zip.1)

    same_test : (name : List ℕ) (i : Instance) → same_name name (instance_name i) ≡ pointwise nat_eq name (instance_name i)
    same_test name i =
        same_tests (same_name name (instance_name i)) (pointwise nat_eq name (instance_name i))
        (λ same. (bytes_decides name (instance_name i)).1 ((same_name-Decides name (instance_name i)).0 same))
        (λ same. (same_name-Decides name (instance_name i)).1 ((bytes_decides name (instance_name i)).0 same))

    named_there : (name : List ℕ) → instance_named task name ≡ item_in (kept_instances task) (place_of (action_names g) name)
    named_there name =
        same_find (λ (i : Instance). same_name name (instance_name i)) (λ i. pointwise nat_eq name (instance_name i)) (kept_instances task) (same_test name)
        ∙ find_place (λ (i : Instance). pointwise nat_eq name (instance_name i)) (kept_instances task)
        ∙ ap (item_in (kept_instances task))
        (position-map (pointwise nat_eq name) instance_name (kept_instances task)
        ∙ ap (λ (names : List (List ℕ)). place_of names name) (sym (same_names g.actions (kept_instances task) is.stands.actions)))

    code_named : (o : Option ℕ) → is_some o ≡ true → carried_act g task (taken (doing o)) ≡ taking (item_in (kept_instances task) o)
    code_named None named = absurd (cc named)
    code_named (Some k) named = refl

    doing_some : (o : Option ℕ) → is_some (doing o) ≡ true → is_some o ≡ true
    doing_some None named = named
    doing_some (Some k) named = refl

    act_is_named : (a : cert.Act) → is_some (act_of g c a) ≡ true → carried_act g task (taken (act_of g c a)) ≡ act_named task (named_act c.acts a)
    act_is_named acts.GiveUp named = refl
    act_is_named acts.Goal named = refl
    act_is_named (acts.Do i) named =
        let some = doing_some (get_or (act_codes g c) i None) named in
        let code = some_of (get_or (act_codes g c) i None) some in
        code_named (get_or (act_codes g c) i None) some
        ∙ ap (λ o. taking (item_in (kept_instances task) o)) (code_is i code.0 code.1)
        ∙ ap taking (sym (named_there (name_at c.acts i)))
      where
        code_is : (i k : ℕ) → get_or (act_codes g c) i None ≡ Some k → get_or (act_codes g c) i None ≡ place_of (action_names g) (name_at c.acts i)
        code_is i k at = elim (cases_lt i (length c.acts)) [
          | inl within ↦ get_or-map (place_of (action_names g)) c.acts i [] None within
          | inr past ↦
              absurd (none-some k (sym (get_or_past (act_codes g c) i None (omega (arith, past, length-map c.acts (place_of (action_names g))))) ∙ at))
        ]

    abbrev row_with : State → ℕ → ℕ → RowAct Instance → Row State Instance
    row_with s lower upper a = record { state = s; lower = lower; upper = upper; act = a }

    row_is_named : (r : rows.Row) → knows g c r ≡ true → is_some (act_of g c r.act) ≡ true
        → carried_row g task (row_of g c r) ≡ row_named task (named_row c.atoms c.acts r)
    row_is_named r known named = λ j. row_with (state_named r known j) r.lower r.upper (act_is_named r.act named j)

    rows_are_named : (rs : List rows.Row) → ((r : rows.Row) → Contains rs r → knows g c r ≡ true)
        → ((r : rows.Row) → Contains rs r → is_some (act_of g c r.act) ≡ true)
        → map (carried_row g task) (map (row_of g c) (filter (knows g c) rs)) ≡ map (row_named task) (map (named_row c.atoms c.acts) rs)
    rows_are_named [] known named = refl
    rows_are_named (r ∷ rs) known named =
        ap (λ b. map (carried_row g task) (map (row_of g c) (cond b (r ∷ filter (knows g c) rs) (filter (knows g c) rs)))) (known r (Contains-first r rs))
        ∙ (λ j. row_is_named r (known r (Contains-first r rs)) (named r (Contains-first r rs)) j
        ∷ rows_are_named rs (λ x inside. known x (Contains-later r rs x inside)) (λ x inside. named x (Contains-later r rs x inside)) j)

pub names_are_carried : NamesAreCarried
names_are_carried g task charges is c for = λ j. record {
  penalty = c.penalty;
  rows = rows_are_named g task c charges is c.rows for.atoms_known for.acts_named j;
  lower = c.lower;
  upper = c.upper;
}
