-- Atoms by texts: their texts rise and are those of the atoms, and the number of an atom is its place.
use Rattle.std.proofs.Common.{◌≡◌, ◌⊎◌, inl, inr, ℕ, suc, zero, ◌<◌, true, false, Ordering, List, [], ◌∷◌, map, length, None, Some, refl, sym, ap, subst, ◌∙◌, arith}
use Rattle.std.specs.Prelude.{◌≢◌, AllPairs, Contains, get_or, nat_lt, position}
use Rattle.std.specs.List.{position_or_len}
use Rattle.std.specs.declared.cmp.Ordering.TheVariants.{Less, Equal, Greater}
use Rattle.std.specs.Ordering.{is_lt, is_eq, ordering_reverse}
use Rattle.std.proofs.lemmas.Bool.{and_parts, and_from, lt-ltb, le-ltb, false_from_ne_true}
use Rattle.std.proofs.lemmas.Cmp.{nat_list_cmp_total}
use Rattle.std.proofs.lemmas.List.{get_or_default}
use Rattle.plain_list.specs.Texts.{list_text, compare_texts, rises, rises_behind}
use Rattle.plain_list.proofs.Members.{Contains-first, Contains-later, Contains-cons_cases, Contains-nil, Contains-map, Contains-map_cases}
use Rattle.plain_list.proofs.Related.{AllPairs-head, AllPairs-tail}
use Rattle.ppddl_model.specs.State.{same_name, GroundAtom}
use Rattle.ppddl_model.proofs.States.{same_name-Decides}
use Rattle.ground_meaning.specs.refusals.Atoms.{with_atom, by_texts, texts_of}

-- ---- texts that rise

level_is_same : (x y : List ℕ) → compare_texts x y ≡ Equal → x ≡ y
level_is_same x y level = (same_name-Decides x y).0 (ap is_eq level)

below_from_above : (x y : List ℕ) → compare_texts x y ≡ Greater → compare_texts y x ≡ Less
below_from_above x y above = nat_list_cmp_total.antisymm y x ∙ ap ordering_reverse above

-- what an item that is compared with the first becomes
module _ (a x : GroundAtom) (atoms : List GroundAtom) where
  abbrev placed : Ordering → List GroundAtom
  placed order = elim order [ Less ↦ a ∷ x ∷ atoms | Equal ↦ x ∷ atoms | Greater ↦ x ∷ with_atom a atoms ]

  placed_cases : (P : List GroundAtom → Type 0) (order : Ordering) → compare_texts (list_text a) (list_text x) ≡ order
      → (compare_texts (list_text a) (list_text x) ≡ Less → P (a ∷ x ∷ atoms))
      → (compare_texts (list_text a) (list_text x) ≡ Equal → P (x ∷ atoms))
      → (compare_texts (list_text a) (list_text x) ≡ Greater → P (x ∷ with_atom a atoms))
      → P (placed order)
  placed_cases P Less e less equal greater = less e
  placed_cases P Equal e less equal greater = equal e
  placed_cases P Greater e less equal greater = greater e

rises_with_behind : (t : List ℕ) (a : GroundAtom) (atoms : List GroundAtom) → compare_texts t (list_text a) ≡ Less
    → rises_behind compare_texts t (map list_text atoms) ≡ true → rises_behind compare_texts t (map list_text (with_atom a atoms)) ≡ true
rises_with_behind t a [] below rising = rw below refl
rises_with_behind t a (x ∷ atoms) below rising =
    let parts = and_parts (is_lt (compare_texts t (list_text x))) (rises_behind compare_texts (list_text x) (map list_text atoms)) rising in
    placed_cases a x atoms (λ l. rises_behind compare_texts t (map list_text l) ≡ true) (compare_texts (list_text a) (list_text x)) refl
    (λ less. rw (below, less) parts.1)
    (λ equal. rising)
    (λ greater. and_from (is_lt (compare_texts t (list_text x))) (rises_behind compare_texts (list_text x) (map list_text (with_atom a atoms)))
    parts.0 (rises_with_behind (list_text x) a atoms (below_from_above (list_text a) (list_text x) greater) parts.1))

rises_with : (a : GroundAtom) (atoms : List GroundAtom) → rises compare_texts (map list_text atoms) ≡ true
    → rises compare_texts (map list_text (with_atom a atoms)) ≡ true
rises_with a [] rising = refl
rises_with a (x ∷ atoms) rising =
    placed_cases a x atoms (λ l. rises compare_texts (map list_text l) ≡ true) (compare_texts (list_text a) (list_text x)) refl
    (λ less. rw less rising)
    (λ equal. rising)
    (λ greater. rises_with_behind (list_text x) a atoms (below_from_above (list_text a) (list_text x) greater) rising)

pub texts_rise : (atoms : List GroundAtom) → rises compare_texts (texts_of atoms) ≡ true
texts_rise [] = refl
texts_rise (a ∷ atoms) = rises_with a (by_texts atoms) (texts_rise atoms)

-- ---- members

with_atom_member : (a : GroundAtom) (atoms : List GroundAtom) (q : GroundAtom) → Contains (with_atom a atoms) q → (a ≡ q) ⊎ Contains atoms q
with_atom_member a [] q = λ inside. elim (Contains-cons_cases a [] q inside) [ inl here ↦ inl here | inr none ↦ absurd (Contains-nil q none) ]
with_atom_member a (x ∷ atoms) q =
    placed_cases a x atoms (λ l. Contains l q → (a ≡ q) ⊎ Contains (x ∷ atoms) q) (compare_texts (list_text a) (list_text x)) refl
    (λ less inside. Contains-cons_cases a (x ∷ atoms) q inside)
    (λ equal inside. inr inside)
    (λ greater inside. elim (Contains-cons_cases x (with_atom a atoms) q inside) [
      | inl here ↦ inr (subst (λ z. Contains (x ∷ atoms) z) here (Contains-first x atoms))
      | inr later ↦ elim (with_atom_member a atoms q later) [
        | inl new ↦ inl new
        | inr old ↦ inr (Contains-later x atoms q old)
      ]
    ])

pub by_texts_member : (atoms : List GroundAtom) (q : GroundAtom) → Contains (by_texts atoms) q → Contains atoms q
by_texts_member [] q inside = inside
by_texts_member (a ∷ atoms) q inside = elim (with_atom_member a (by_texts atoms) q inside) [
  | inl here ↦ subst (λ z. Contains (a ∷ atoms) z) here (Contains-first a atoms)
  | inr later ↦ Contains-later a atoms q (by_texts_member atoms q later)
]

with_atom_text : (a : GroundAtom) (atoms : List GroundAtom) → Contains (map list_text (with_atom a atoms)) (list_text a)
with_atom_text a [] = Contains-first (list_text a) []
with_atom_text a (x ∷ atoms) =
    placed_cases a x atoms (λ l. Contains (map list_text l) (list_text a)) (compare_texts (list_text a) (list_text x)) refl
    (λ less. Contains-first (list_text a) (map list_text (x ∷ atoms)))
    (λ equal. subst (λ z. Contains (map list_text (x ∷ atoms)) z) (sym (level_is_same (list_text a) (list_text x) equal))
    (Contains-first (list_text x) (map list_text atoms)))
    (λ greater. Contains-later (list_text x) (map list_text (with_atom a atoms)) (list_text a) (with_atom_text a atoms))

with_atom_keeps : (a : GroundAtom) (atoms : List GroundAtom) (t : List ℕ) → Contains (map list_text atoms) t → Contains (map list_text (with_atom a atoms)) t
with_atom_keeps a [] t inside = absurd (Contains-nil t inside)
with_atom_keeps a (x ∷ atoms) t inside =
    placed_cases a x atoms (λ l. Contains (map list_text l) t) (compare_texts (list_text a) (list_text x)) refl
    (λ less. Contains-later (list_text a) (map list_text (x ∷ atoms)) t inside)
    (λ equal. inside)
    (λ greater. elim (Contains-cons_cases (list_text x) (map list_text atoms) t inside) [
      | inl here ↦ subst (λ z. Contains (map list_text (x ∷ with_atom a atoms)) z) here (Contains-first (list_text x) (map list_text (with_atom a atoms)))
      | inr later ↦ Contains-later (list_text x) (map list_text (with_atom a atoms)) t (with_atom_keeps a atoms t later)
    ])

pub text_is_there : (atoms : List GroundAtom) (t : List ℕ) → Contains (map list_text atoms) t → Contains (texts_of atoms) t
text_is_there [] t inside = inside
text_is_there (a ∷ atoms) t inside = elim (Contains-cons_cases (list_text a) (map list_text atoms) t inside) [
  | inl here ↦ subst (λ z. Contains (texts_of (a ∷ atoms)) z) here (with_atom_text a (by_texts atoms))
  | inr later ↦ with_atom_keeps a (by_texts atoms) t (text_is_there atoms t later)
]

pub text_is_ones : (atoms : List GroundAtom) (t : List ℕ) → Contains (texts_of atoms) t → Contains (map list_text atoms) t
text_is_ones atoms t inside =
    let found = Contains-map_cases list_text (by_texts atoms) t inside in
    subst (λ z. Contains (map list_text atoms) z) found.2 (Contains-map list_text atoms found.0 (by_texts_member atoms found.0 found.1))

-- ---- places

place_at : (t : List ℕ) (xs : List (List ℕ)) → AllPairs (λ x y. x ≢ y) xs → (k : ℕ) → k < length xs → get_or xs k [] ≡ t
    → position_or_len (same_name t) xs ≡ k
place_at t [] differ k within here = absurd (omega arith)
place_at t (x ∷ xs) differ zero within here =
    let same : same_name t x ≡ true = (same_name-Decides t x).1 (sym here) in rw same refl
place_at t (x ∷ xs) differ (suc k) within here =
    let other : same_name t x ≡ false
    = false_from_ne_true (same_name t x) (λ same. AllPairs-head (λ y z. y ≢ z) x xs differ t
    (k, omega (arith, within), get_or_default xs k t [] (omega (arith, within)) ∙ here) (sym ((same_name-Decides t x).0 same))) in
    let rest : position_or_len (same_name t) xs ≡ k = place_at t xs (AllPairs-tail (λ y z. y ≢ z) x xs differ) k (omega (arith, within)) here in
    rw other (omega (arith, rest))

pub number_at : (t : List ℕ) (xs : List (List ℕ)) → AllPairs (λ x y. x ≢ y) xs → (k : ℕ) → k < length xs → get_or xs k [] ≡ t
    → position (same_name t) xs ≡ Some k
number_at t xs differ k within here =
    let place : position_or_len (same_name t) xs ≡ k = place_at t xs differ k within here in
    let inside : nat_lt k (length xs) ≡ true = lt-ltb k (length xs) within in
    rw (place, inside) refl

no_place : (t : List ℕ) (xs : List (List ℕ)) → (Contains xs t → ⊥) → position_or_len (same_name t) xs ≡ length xs
no_place t [] none = refl
no_place t (x ∷ xs) none =
    let other : same_name t x ≡ false
    = false_from_ne_true (same_name t x) (λ same. none (subst (λ z. Contains (x ∷ xs) z) (sym ((same_name-Decides t x).0 same)) (Contains-first x xs))) in
    let rest : position_or_len (same_name t) xs ≡ length xs = no_place t xs (λ later. none (Contains-later x xs t later)) in
    rw other (omega (arith, rest))

pub no_number : (t : List ℕ) (xs : List (List ℕ)) → (Contains xs t → ⊥) → position (same_name t) xs ≡ None
no_number t xs none =
    let place : position_or_len (same_name t) xs ≡ length xs = no_place t xs none in
    let past : nat_lt (length xs) (length xs) ≡ false = le-ltb (length xs) (length xs) (omega arith) in
    rw (place, past) refl
