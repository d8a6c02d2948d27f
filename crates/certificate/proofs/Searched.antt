-- What a binary search answers in a table that has the text.
use Rattle.std.proofs.Common.{◌≡◌, ◌⊎◌, inl, inr, ℕ, ◌<◌, ◌≤◌, List, [], length, get_or, Some, Result, Ok, Err, refl, ap, sym, ◌∙◌, arith, Ordering}
use Rattle.std.specs.declared.cmp.Ordering.TheVariants.{Less, Equal, Greater}
use Rattle.std.specs.Ordering.{nat_cmp, ordering_index}
use Rattle.std.specs.List.Sorted.{IsBinarySearchResult, IsSearchInRange}
use Rattle.std.proofs.lemmas.Bool.{cases_lt, lt-ltb, le-ltb, eq-eqb, ne_eqb}
use Rattle.std.proofs.lemmas.Option.{slice_get-get_or}
use Rattle.plain_list.specs.Texts.{compare_texts}
use Rattle.certificate.specs.Content.{name_at}
use Rattle.certificate.specs.Numbering.{Among, place_of}
use Rattle.certificate.proofs.Sorted.{Sorted, place_found, place_is_own, order_of_places, equal_is}

some_is : {A : Type 0} (x y : A) → Some x ≡ Some y → x ≡ y
some_is x y e = cc

same_default : (xs : List (List ℕ)) (i : ℕ) (d : List ℕ) → i < length xs → get_or xs i d ≡ name_at xs i
same_default xs i d lt = some_is (get_or xs i d) (get_or xs i []) (sym (slice_get-get_or xs i d lt) ∙ slice_get-get_or xs i [] lt)

index_rises : (i j p : ℕ) → i ≤ j → ordering_index (nat_cmp i p) ≤ ordering_index (nat_cmp j p)
index_rises i j p le =
    elim (cases_lt i p) [
      | inl below ↦ (rw (lt-ltb i p below) (omega arith))
      | inr above ↦ elim (cases_lt p i) [
        | inl over ↦ (rw (le-ltb i p above, ne_eqb i p (λ e. omega (arith, e, over)), le-ltb j p (omega (arith, le, above)), ne_eqb j p (λ e. omega (arith, e, over, le))) (omega arith))
        | inr tied ↦ elim (cases_lt p j) [
          | inl over ↦ (
              let same : i ≡ p = omega (arith, above, tied) in
              rw (same, le-ltb p p (omega arith), eq-eqb p p refl, le-ltb j p (omega (arith, over)), ne_eqb j p (λ e. omega (arith, e, over))) (omega arith)
              )
          | inr low ↦ (
              let first : i ≡ p = omega (arith, above, tied) in
              let second : j ≡ p = omega (arith, low, le, first) in
              rw (first, second) (omega arith)
              )
        ]
      ]
    ]

no_tie : (o : Ordering) → o ≡ Equal → o ≡ Greater → ⊥
no_tie o e g = never (sym e ∙ g)
  where
    never : (let o : Ordering = Equal in o) ≡ Greater → ⊥
    never e = absurd cc

no_less : (o : Ordering) → o ≡ Equal → o ≡ Less → ⊥
no_less o e g = never (sym e ∙ g)
  where
    never : (let o : Ordering = Equal in o) ≡ Less → ⊥
    never e = absurd cc

module _ (table : List (List ℕ)) (text : List ℕ) (sorted : Sorted table) (among : Among table text) where
  place : ℕ
  place = place_of table text

  at_place : (i : ℕ) → i < length table → compare_texts (name_at table i) text ≡ nat_cmp i (place_of table text)
  at_place i lt =
      let found = place_found table text among in
      ap (compare_texts (name_at table i)) (sym found.1) ∙ order_of_places table i (place_of table text) sorted lt found.0

  pub searched : (r : Result ℕ ℕ) → IsSearchInRange r (length table) → IsBinarySearchResult (λ y. compare_texts y text) table r → (i : ℕ) → (r ≡ Ok i) ⊎ (r ≡ Err i) → i ≡ place_of table text
  searched (Ok i) within found j (inl is) =
      let same : i ≡ j = ok_place i j is in
      sym (place_is_own table j text sorted (omega (arith, within, same)) (ap (name_at table) (sym same) ∙ equal_is (name_at table i) text (found [])))
    where
      ok_place : (i j : ℕ) → (let r : Result ℕ ℕ = Ok i in r) ≡ Ok j → i ≡ j
      ok_place i j e = cc
  searched (Ok i) within found j (inr is) = absurd cc
  searched (Err i) within found j (inl is) = absurd cc
  searched (Err i) within found j (inr is) =
      let same : i ≡ j = err_place i j is in
      let at = place_found table text among in
      let parted = found (λ a b d le lt. rw (same_default table a d (omega (arith, le, lt)), same_default table b d lt, at_place a (omega (arith, le, lt)), at_place b lt) (index_rises a b (place_of table text) le)) in
      let tied : compare_texts (name_at table (place_of table text)) text ≡ Equal = at_place (place_of table text) at.0 ∙ rw (le-ltb (place_of table text) (place_of table text) (omega arith), eq-eqb (place_of table text) (place_of table text) refl) refl in
      elim (cases_lt (place_of table text) i) [
        | inl below ↦ absurd (no_less (compare_texts (name_at table (place_of table text)) text) tied (parted.0 (place_of table text) [] (omega arith) below))
        | inr above ↦ absurd (no_tie (compare_texts (name_at table (place_of table text)) text) tied (parted.1 (place_of table text) [] above at.0))
      ]
    where
      err_place : (i j : ℕ) → (let r : Result ℕ ℕ = Err i in r) ≡ Err j → i ≡ j
      err_place i j e = cc
