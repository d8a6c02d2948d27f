-- Rows that rise are of different states, as far as the problem has their atoms.
use Rattle.std.proofs.Common.{◌≡◌, ◌≢◌, inl, inr, ℕ, ◌*◌, ◌<◌, true, false, cond, ◌&&◌, List, [], ◌∷◌, Option, Some, None, length, map, filter, get_or, refl, sym, ap, subst, ◌∙◌, arith}
use Rattle.std.specs.Prelude.{Contains, All, IsTrue, is_some, nat_eq, nat_lt}
use Rattle.std.specs.List.{AllByRecursion}
use Rattle.std.specs.Ordering.{nat_cmp, is_lt}
use Rattle.std.specs.declared.cmp.Ordering.TheVariants.{Less, Equal}
use Rattle.std.specs.Cmp.{nat_eq_equiv}
use Rattle.std.specs.Cmp.Lexicographic.{pointwise, slice_cmp, bytes_decides}
use Rattle.std.proofs.lemmas.Bool.{cases_Bool, cases_lt, and_parts, lt-ltb, eqb-true}
use Rattle.std.proofs.lemmas.Cmp.{tied_itself, nat_list_cmp_total}
use Rattle.std.proofs.lemmas.List.{get_or-map, get_or_past, length-map}
use Rattle.std.proofs.lemmas.List.Elements.{All-nil, All-cons}
use Rattle.std.proofs.lemmas.List.Kept.{AllPairs-cons}
use Rattle.std.proofs.lemmas.List.Quantifiers.{position-Some}
use Rattle.std.proofs.lemmas.Map.Views.{list_any-from_Contains, Contains-from_any}
use Rattle.std.proofs.lemmas.Option.{none-some}
use Rattle.plain_list.specs.Texts.{compare_texts, rises, rises_behind}
use Rattle.plain_list.proofs.Members.{Contains-first, Contains-cons_cases, Contains-nil, Contains-flat_map, Contains-flat_map_cases}
use Rattle.certificate.specs.Rows.{Row}
use Rattle.certificate.specs.Content.{Content, compare_rows, IsCertificate}
use Rattle.decision_process.specs.Readings as readings
use Rattle.decision_process.specs.Readings.{HasDistinctStates}
use Rattle.ground_model.specs.Packed.{State, has_bit, words_for}
use Rattle.ground_model.specs.Choices.{is_member}
use Rattle.ground_model.specs.Ground.{Ground}
use Rattle.ground_model.proofs.Packed.{has_bit-packed}
use Rattle.ground_model.proofs.Rising.{texts_differ}
use Rattle.ground_step.specs.Atoms.{state_of}
use Rattle.ground_step.specs.Names.{place_of}
use Rattle.certificate_check.specs.Claims.{listed, number_at, numbers_of, are_known, atom_numbers, knows, row_state, row_of, rows_of}
use Rattle.certificate_check.specs.Packing.{NumbersDiffer, AtomsRise}
use Rattle.certificate_check.proofs.Rising.{less_is, rising, same_members}

some_of : (o : Option ℕ) → is_some o ≡ true → (q : ℕ) × (o ≡ Some q)
some_of None e = absurd cc
some_of (Some q) e = (q, refl)

listed_is : (o : Option ℕ) (q : ℕ) → Contains (listed o) q → o ≡ Some q
listed_is None q inside = absurd (Contains-nil q inside)
listed_is (Some p) q inside = elim (Contains-cons_cases p [] q inside) [
  | inl here ↦ ap Some here
  | inr later ↦ absurd (Contains-nil q later)
]

module _ (numbers : List (Option ℕ)) where
  known_has : (atoms : List ℕ) → are_known numbers atoms ≡ true → (i : ℕ) → Contains atoms i
      → (q : ℕ) × (number_at numbers i ≡ Some q)
  known_has [] known i inside = absurd (Contains-nil i inside)
  known_has (j ∷ atoms) known i inside =
      let parts = and_parts (is_some (number_at numbers j)) (are_known numbers atoms) known in
      elim (Contains-cons_cases j atoms i inside) [
        | inl here ↦ subst (λ k. (q : ℕ) × (number_at numbers k ≡ Some q)) here (some_of (number_at numbers j) parts.0)
        | inr later ↦ known_has atoms parts.1 i later
      ]

  number_in : (atoms : List ℕ) (i q : ℕ) → Contains atoms i → number_at numbers i ≡ Some q
      → Contains (numbers_of numbers atoms) q
  number_in atoms i q inside is =
      Contains-flat_map (λ k. listed (number_at numbers k)) atoms i q inside
      (subst (λ o. Contains (listed o) q) (sym is) (Contains-first q []))

  pub number_from : (atoms : List ℕ) (q : ℕ) → Contains (numbers_of numbers atoms) q
      → (i : ℕ) × Contains atoms i × (number_at numbers i ≡ Some q)
  number_from atoms q inside =
      let found : (i : ℕ) × Contains atoms i × Contains (listed (number_at numbers i)) q
      = Contains-flat_map_cases (λ k. listed (number_at numbers k)) atoms q inside in
      (found.0, found.1, listed_is (number_at numbers found.0) q found.2)

bit_on : (atoms : List ℕ) (n q : ℕ) → q < 64 * n → Contains atoms q → has_bit (state_of atoms n) q ≡ true
bit_on atoms n q within inside =
    has_bit-packed (is_member atoms) n q ∙ ap (λ b. b && is_member atoms q) (lt-ltb q (64 * n) within)
    ∙ list_any-from_Contains nat_eq_equiv q atoms inside

bit_from : (atoms : List ℕ) (n q : ℕ) → has_bit (state_of atoms n) q ≡ true → Contains atoms q
bit_from atoms n q set =
    Contains-from_any (λ x y same. eqb-true x y same) q atoms
    (and_parts (nat_lt q (64 * n)) (is_member atoms q) (sym (has_bit-packed (is_member atoms) n q) ∙ set)).1

module _ (g : Ground) (c : Content) (atoms_rise : IsTrue (rises compare_texts c.atoms)) where
  named : (i q : ℕ) → number_at (atom_numbers g c) i ≡ Some q
      → (i < length c.atoms) × (q < length g.atoms) × (get_or g.atoms q [] ≡ get_or c.atoms i [])
  named i q is = elim (cases_lt i (length c.atoms)) [
    | inl within ↦
        let text = get_or c.atoms i [] in
        let at : place_of g.atoms text ≡ Some q = sym (get_or-map (place_of g.atoms) c.atoms i [] None within) ∙ is in
        let found = position-Some (pointwise nat_eq text) g.atoms q [] at in
        (within, found.0, sym ((bytes_decides text (get_or g.atoms q [])).0 found.1))
    | inr past ↦
        let none : get_or (atom_numbers g c) i None ≡ None
        = get_or_past (atom_numbers g c) i None (omega (arith, past, length-map c.atoms (place_of g.atoms))) in
        absurd (none-some q (sym none ∙ is))
  ]

  pub numbers_differ : NumbersDiffer (atom_numbers g c)
  numbers_differ i j q is is' =
      let a = named i q is in
      let b = named j q is' in
      let same : get_or c.atoms i [] ≡ get_or c.atoms j [] = sym a.2 ∙ b.2 in
      elim (cases_lt i j) [
        | inl less ↦ absurd (texts_differ c.atoms atoms_rise i j [] less b.0 same)
        | inr more ↦ elim (cases_lt j i) [
          | inl less ↦ absurd (texts_differ c.atoms atoms_rise j i [] less a.0 (sym same))
          | inr more' ↦ omega (arith, more, more')
        ]
      ]

  member_of : (a b : List ℕ) → are_known (atom_numbers g c) a ≡ true
      → state_of (numbers_of (atom_numbers g c) a) (words_for (length g.atoms))
      ≡ state_of (numbers_of (atom_numbers g c) b) (words_for (length g.atoms))
      → (i : ℕ) → Contains a i → Contains b i
  member_of a b known same i inside =
      let n = words_for (length g.atoms) in
      let at : (q : ℕ) × (number_at (atom_numbers g c) i ≡ Some q) = known_has (atom_numbers g c) a known i inside in
      let q = at.0 in
      let small : q < length g.atoms = (named i q at.1).1 in
      let within : q < 64 * n = omega (arith, small) in
      let on : has_bit (state_of (numbers_of (atom_numbers g c) b) n) q ≡ true
      = subst (λ s. has_bit s q ≡ true) same
      (bit_on (numbers_of (atom_numbers g c) a) n q within (number_in (atom_numbers g c) a i q inside at.1)) in
      let there : (j : ℕ) × Contains b j × (number_at (atom_numbers g c) j ≡ Some q)
      = number_from (atom_numbers g c) b q (bit_from (numbers_of (atom_numbers g c) b) n q on) in
      subst (Contains b) (sym (numbers_differ i there.0 q at.1 there.2)) there.1

  differ : (r s : Row) → rises nat_cmp r.atoms ≡ true → rises nat_cmp s.atoms ≡ true → compare_rows r s ≡ Less
      → knows g c r ≡ true → knows g c s ≡ true → row_state g c r ≢ row_state g c s
  differ r s rise rise' less known known' same =
      let atoms : r.atoms ≡ s.atoms = same_members r.atoms s.atoms (rising r.atoms rise) (rising s.atoms rise')
      (member_of r.atoms s.atoms known same) (member_of s.atoms r.atoms known' (sym same)) in
      let tied : compare_rows r s ≡ Equal
      = subst (λ a. slice_cmp nat_cmp r.atoms a ≡ Equal) atoms (tied_itself nat_list_cmp_total r.atoms) in
      absurd (cc (less, tied))

  -- ---- the rows of a list

  pub rows_known : (r : Row) (rows : List Row) → knows g c r ≡ true → rows_of g c (r ∷ rows) ≡ row_of g c r ∷ rows_of g c rows
  rows_known r rows known = ap (λ b. map (row_of g c) (cond b (r ∷ filter (knows g c) rows) (filter (knows g c) rows))) known

  pub rows_unknown : (r : Row) (rows : List Row) → knows g c r ≡ false → rows_of g c (r ∷ rows) ≡ rows_of g c rows
  rows_unknown r rows unknown = ap (λ b. map (row_of g c) (cond b (r ∷ filter (knows g c) rows) (filter (knows g c) rows))) unknown

  abbrev Later : Row → List Row → Type 0
  Later r rows = AllByRecursion (λ (s : Row). compare_rows r s ≡ Less) rows

  apart : (r : Row) → rises nat_cmp r.atoms ≡ true → knows g c r ≡ true → (rows : List Row) → AtomsRise rows → Later r rows
      → All (λ (o : readings.Row State ℕ). row_state g c r ≢ o.state) (rows_of g c rows)
  apart r rise known [] rises' later = All-nil (λ (o : readings.Row State ℕ). row_state g c r ≢ o.state)
  apart r rise known (s ∷ rows) rises' later = elim (cases_Bool (knows g c s)) [
    | inl known' ↦
        subst (All (λ (o : readings.Row State ℕ). row_state g c r ≢ o.state)) (sym (rows_known s rows known'))
        (All-cons (λ (o : readings.Row State ℕ). row_state g c r ≢ o.state) (row_of g c s) (rows_of g c rows)
        (differ r s rise rises'.0 later.0 known known') (apart r rise known rows rises'.1 later.1))
    | inr unknown ↦
        subst (All (λ (o : readings.Row State ℕ). row_state g c r ≢ o.state)) (sym (rows_unknown s rows unknown))
        (apart r rise known rows rises'.1 later.1)
  ]

  passed_on : (r s : Row) → compare_rows r s ≡ Less → (rows : List Row) → Later s rows → Later r rows
  passed_on r s less [] later = tt
  passed_on r s less (t ∷ rows) later =
      (nat_list_cmp_total.trans r.atoms s.atoms t.atoms less later.0, passed_on r s less rows later.1)

  abbrev Sorted : List Row → Type 0
  Sorted [] = Unit {0}
  Sorted (r ∷ rows) = Later r rows × Sorted rows

  sorted_behind : (r : Row) (rows : List Row) → rises_behind compare_rows r rows ≡ true → Later r rows × Sorted rows
  sorted_behind r [] e = (tt, tt)
  sorted_behind r (s ∷ rows) e =
      let parts = and_parts (is_lt (compare_rows r s)) (rises_behind compare_rows s rows) e in
      let less : compare_rows r s ≡ Less = less_is (compare_rows r s) parts.0 in
      let rest : Later s rows × Sorted rows = sorted_behind s rows parts.1 in
      ((less, passed_on r s less rows rest.0), rest)

  sorted : (rows : List Row) → rises compare_rows rows ≡ true → Sorted rows
  sorted [] e = tt
  sorted (r ∷ rows) e = sorted_behind r rows e

  distinct_from : (rows : List Row) → AtomsRise rows → Sorted rows → HasDistinctStates (rows_of g c rows)
  distinct_from [] rises' order = λ i j d before within. absurd (omega arith)
  distinct_from (r ∷ rows) rises' order = elim (cases_Bool (knows g c r)) [
    | inl known ↦
        subst HasDistinctStates (sym (rows_known r rows known))
        (AllPairs-cons (λ (o p : readings.Row State ℕ). o.state ≢ p.state) (row_of g c r) (rows_of g c rows)
        (apart r rises'.0 known rows rises'.1 order.0) (distinct_from rows rises'.1 order.1))
    | inr unknown ↦ subst HasDistinctStates (sym (rows_unknown r rows unknown)) (distinct_from rows rises'.1 order.1)
  ]

pub states_differ : (g : Ground) (c : Content) → IsCertificate c → HasDistinctStates (rows_of g c c.rows)
states_differ g c is =
    distinct_from g c is.atoms_rise c.rows is.numbers_rise (sorted g c is.atoms_rise c.rows is.rows_rise)
