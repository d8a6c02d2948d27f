-- Lists that rise, by the test of each item and the next; and lists in their order.
use Rattle.std.proofs.Common.{◌≡◌, ℕ, zero, suc, ◌+◌, ◌<◌, Bool, true, false, List, [], ◌∷◌, length, get_or, Some, refl, ap, sym, arith, Ordering}
use Rattle.std.specs.Ordering.{is_lt, is_some_and}
use Rattle.std.specs.Cmp.Lexicographic.{slice_cmp, slice_partial_cmp, lists_agrees}
use Rattle.std.specs.List.{AllAdjacentBelow, IsAllAdjacentAnswer}
use Rattle.std.proofs.lemmas.Bool.{and_right}
use Rattle.plain_list.specs.Texts.{rises}

module _ {A : Type 0} (cmp : A → A → Ordering) where
  rises_all : (xs : List A) → AllAdjacentBelow (λ x y. true ≡ is_lt (cmp x y)) xs (length xs) → rises cmp xs ≡ true
  rises_all [] all = refl
  rises_all (x ∷ []) all = refl
  rises_all (x ∷ y ∷ ys) all =
      let first : true ≡ is_lt (cmp x y) = all 0 x (omega arith) in
      let next : (k : ℕ) → suc k + 1 ≡ suc (k + 1) = λ k. omega arith in
      let rest : rises cmp (y ∷ ys) ≡ true = rises_all (y ∷ ys) (λ k d lt. rw (next k) at (all (suc k) d (omega arith))) in
      rw (sym first, rest) refl

  falls_at : (xs : List A) (k : ℕ) → k + 1 < length xs → ((d : A) → false ≡ is_lt (cmp (get_or xs k d) (get_or xs (k + 1) d))) → rises cmp xs ≡ false
  falls_at [] k lt at = absurd (omega arith)
  falls_at (x ∷ []) k lt at = absurd (omega arith)
  falls_at (x ∷ y ∷ ys) zero lt at = rw (sym (at x)) refl
  falls_at (x ∷ y ∷ ys) (suc k) lt at =
      let next : suc k + 1 ≡ suc (k + 1) = omega arith in
      and_right (is_lt (cmp x y)) (rises cmp (y ∷ ys)) (falls_at (y ∷ ys) k (omega arith) (λ d. rw next at (at d)))

  -- what a test of each item and the next answers
  pub rises_answer : (xs : List A) (r : Bool) → IsAllAdjacentAnswer (λ x y b. b ≡ is_lt (cmp x y)) xs r → r ≡ rises cmp xs
  rises_answer xs true all = sym (rises_all xs all)
  rises_answer xs false fall = sym (falls_at xs fall.0 fall.1 fall.2)

-- lists are compared as slices are
pub below_answer : {A : Type 0} (cmp : A → A → Ordering) (xs ys : List A) → is_some_and is_lt (slice_partial_cmp (λ x y. Some (cmp x y)) xs ys) ≡ is_lt (slice_cmp cmp xs ys)
below_answer cmp xs ys = ap (is_some_and is_lt) (lists_agrees (λ x y. refl) xs ys)
