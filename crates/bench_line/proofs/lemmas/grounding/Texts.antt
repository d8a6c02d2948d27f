-- Atoms by texts are at most as many as a list that holds their texts.
use Rattle.std.proofs.Common.{◌≡◌, ◌⊎◌, inl, inr, ℕ, ◌≤◌, Ordering, List, [], ◌∷◌, map, length, refl, subst, ◌∙◌, ap}
use Rattle.std.specs.Prelude.{Contains}
use Rattle.std.specs.List.{AllByRecursion}
use Rattle.std.specs.List.Sorted.{IsStrictlySortedBy}
use Rattle.std.specs.declared.cmp.Ordering.TheVariants.{Less, Equal, Greater}
use Rattle.std.specs.Ordering.{ordering_reverse}
use Rattle.std.proofs.lemmas.Cmp.{nat_list_cmp_total, eq_by_cmp_equiv}
use Rattle.std.proofs.lemmas.Map.Keys.{IsDistinct-from_sorted, sorted_head, sorted_tail}
use Rattle.std.proofs.lemmas.Map.Made.{is_member-Decides, length-le_from_is_member}
use Rattle.plain_list.specs.Texts.{list_text, compare_texts}
use Rattle.plain_list.proofs.Members.{Contains-first, Contains-later, Contains-cons_cases, Contains-nil, Contains-map_cases}
use Rattle.ppddl_model.specs.State.{GroundAtom}
use Rattle.ppddl_model.proofs.States.{same_name-Decides}
use Rattle.ground_meaning.specs.refusals.Atoms.{with_atom, by_texts, texts_of}

below_from_above : (x y : List ℕ) → compare_texts x y ≡ Greater → compare_texts y x ≡ Less
below_from_above x y above = nat_list_cmp_total.antisymm y x ∙ ap ordering_reverse above

-- what an atom that is compared with the first becomes
module _ (a x : GroundAtom) (atoms : List GroundAtom) where
  abbrev placed : Ordering → List GroundAtom
  placed order = elim order [ Less ↦ a ∷ x ∷ atoms | Equal ↦ x ∷ atoms | Greater ↦ x ∷ with_atom a atoms ]

  placed_cases : (P : List GroundAtom → Type 0) (order : Ordering) → compare_texts (list_text a) (list_text x) ≡ order
      → (compare_texts (list_text a) (list_text x) ≡ Less → P (a ∷ x ∷ atoms))
      → (compare_texts (list_text a) (list_text x) ≡ Equal → P (x ∷ atoms))
      → (compare_texts (list_text a) (list_text x) ≡ Greater → P (x ∷ with_atom a atoms))
      → P (placed order)
  placed_cases P Less e less equal greater = less e
  placed_cases P Equal e less equal greater = equal e
  placed_cases P Greater e less equal greater = greater e

-- ---- texts that rise

-- t is below the text of each atom
abbrev IsBelow : List ℕ → List GroundAtom → Type 0
IsBelow t atoms = AllByRecursion (λ y. compare_texts t y ≡ Less) (map list_text atoms)

abbrev Rise : List GroundAtom → Type 0
Rise atoms = IsStrictlySortedBy compare_texts (map list_text atoms)

below_further : (s t : List ℕ) (atoms : List GroundAtom) → compare_texts s t ≡ Less → IsBelow t atoms → IsBelow s atoms
below_further s t [] below each = tt
below_further s t (x ∷ atoms) below each =
    (nat_list_cmp_total.trans s t (list_text x) below each.0, below_further s t atoms below each.1)

below_with : (t : List ℕ) (a : GroundAtom) (atoms : List GroundAtom) → compare_texts t (list_text a) ≡ Less → IsBelow t atoms
    → IsBelow t (with_atom a atoms)
below_with t a [] below each = (below, tt)
below_with t a (x ∷ atoms) below each =
    placed_cases a x atoms (λ l. IsBelow t l) (compare_texts (list_text a) (list_text x)) refl
    (λ less. (below, each))
    (λ equal. each)
    (λ greater. (each.0, below_with t a atoms below each.1))

rise_from : (a : GroundAtom) (atoms : List GroundAtom) → IsBelow (list_text a) atoms → Rise atoms → Rise (a ∷ atoms)
unfolding IsStrictlySortedBy
rise_from a atoms below rise = (below, rise)

rise_with : (a : GroundAtom) (atoms : List GroundAtom) → Rise atoms → Rise (with_atom a atoms)
rise_with a [] rise = rise_from a [] tt rise
rise_with a (x ∷ atoms) rise =
    let below : IsBelow (list_text x) atoms = sorted_head compare_texts (list_text x) (map list_text atoms) rise in
    let later : Rise atoms = sorted_tail compare_texts (list_text x) (map list_text atoms) rise in
    placed_cases a x atoms Rise (compare_texts (list_text a) (list_text x)) refl
    (λ less. rise_from a (x ∷ atoms) (less, below_further (list_text a) (list_text x) atoms less below) rise)
    (λ equal. rise)
    (λ greater. rise_from x (with_atom a atoms)
    (below_with (list_text x) a atoms (below_from_above (list_text a) (list_text x) greater) below) (rise_with a atoms later))

nothing_rises : Rise []
unfolding IsStrictlySortedBy
nothing_rises = tt

rise_by_texts : (atoms : List GroundAtom) → Rise (by_texts atoms)
rise_by_texts [] = nothing_rises
rise_by_texts (a ∷ atoms) = rise_with a (by_texts atoms) (rise_by_texts atoms)

-- ---- members

with_atom_member : (a : GroundAtom) (atoms : List GroundAtom) (q : GroundAtom) → Contains (with_atom a atoms) q → (a ≡ q) ⊎ Contains atoms q
with_atom_member a [] q = λ inside. elim (Contains-cons_cases a [] q inside) [ inl here ↦ inl here | inr none ↦ absurd (Contains-nil q none) ]
with_atom_member a (x ∷ atoms) q =
    placed_cases a x atoms (λ l. Contains l q → (a ≡ q) ⊎ Contains (x ∷ atoms) q) (compare_texts (list_text a) (list_text x)) refl
    (λ less inside. Contains-cons_cases a (x ∷ atoms) q inside)
    (λ equal inside. inr inside)
    (λ greater inside. elim (Contains-cons_cases x (with_atom a atoms) q inside) [
      | inl here ↦ inr (subst (λ z. Contains (x ∷ atoms) z) here (Contains-first x atoms))
      | inr later ↦ elim (with_atom_member a atoms q later) [
        | inl new ↦ inl new
        | inr old ↦ inr (Contains-later x atoms q old)
      ]
    ])

by_texts_member : (atoms : List GroundAtom) (q : GroundAtom) → Contains (by_texts atoms) q → Contains atoms q
by_texts_member [] q inside = inside
by_texts_member (a ∷ atoms) q inside = elim (with_atom_member a (by_texts atoms) q inside) [
  | inl here ↦ subst (λ z. Contains (a ∷ atoms) z) here (Contains-first a atoms)
  | inr later ↦ Contains-later a atoms q (by_texts_member atoms q later)
]

-- ---- how many

pub texts_are_few : (atoms : List GroundAtom) (texts : List (List ℕ)) → ((q : GroundAtom) → Contains atoms q → Contains texts (list_text q))
    → length (texts_of atoms) ≤ length texts
texts_are_few atoms texts each =
    length-le_from_is_member (eq_by_cmp_equiv nat_list_cmp_total) (texts_of atoms) texts
    (IsDistinct-from_sorted compare_texts (texts_of atoms) (rise_by_texts atoms))
    (λ t here.
    let found = Contains-map_cases list_text (by_texts atoms) t ((is_member-Decides same_name-Decides (texts_of atoms) t).0 here) in
    (is_member-Decides same_name-Decides texts t).1
    (subst (λ z. Contains texts z) found.2 (each found.0 (by_texts_member atoms found.0 found.1))))
