-- Flags that are set for what rows use.
use Rattle.std.proofs.Common.{◌≡◌, ℕ, zero, suc, ◌+◌, ◌-◌, ◌<◌, ◌≤◌, Bool, true, false, ◌||◌, eqb, List, [], ◌∷◌, length, get_or, take, Some, None, refl, ap, sym, subst, ◌∙◌, arith}
use Rattle.std.specs.List.{AllByRecursion, list_any, slice_get}
use Rattle.std.proofs.lemmas.List.Folds.{list_any_more}
use Rattle.std.proofs.lemmas.Option.{slice_get_within, get_or_from_slice_get}
use Rattle.certificate.specs.Rows.{Row}
use Rattle.certificate.specs.Used.{IsMarkedBy, AreUses}
use Rattle.certificate.specs.Reading.{first_unused}

or_none : (a : Bool) → (a || false) ≡ a
or_none true = refl
or_none false = refl

or_assoc : (a b c : Bool) → ((a || b) || c) ≡ (a || (b || c))
or_assoc true b c = refl
or_assoc false b c = refl

or_true : (a : Bool) → (a || true) ≡ true
or_true true = refl
or_true false = refl

some_is : {A : Type 0} (x y : A) → Some x ≡ Some y → x ≡ y
some_is x y e = cc

pub all_at : {A : Type 0} (P : A → Type 0) (xs : List A) (i : ℕ) (x : A) → AllByRecursion P xs → slice_get xs i ≡ Some x → P x
all_at P [] i x all e = absurd cc
all_at P (y ∷ xs) zero x all e = subst P (some_is y x e) all.0
all_at P (y ∷ xs) (suc i) x all e = all_at P xs i x all.1 e

-- ---- places one after the other

module _ (old new : List Bool) (places : List ℕ) (k : ℕ) where
  abbrev Among : ℕ → ℕ → Bool
  Among j i = list_any (λ n. eqb n i) (take j places)

-- ---- rows one after the other

module _ (used : Row → ℕ → Bool) (rows : List Row) (n k : ℕ) where
  pub uses_more : (r : Row) (old new : List Bool) → slice_get rows k ≡ Some r → AreUses (λ i. list_any (λ s. used s i) (take k rows)) n old → IsMarkedBy (used r) old new → AreUses (λ i. list_any (λ s. used s i) (take (k + 1) rows)) n new
  uses_more r old new at are marked =
      let lt = slice_get_within rows k r at in (
        marked.0 ∙ are.0,
        λ i low.
            marked.1 i (omega (arith, low, are.0))
            ∙ ap (λ (v : Bool). v || used r i) (are.1 i low)
            ∙ ap (λ (s : Row). list_any (λ t. used t i) (take k rows) || used s i) (sym (get_or_from_slice_get rows k r r at))
            ∙ sym (list_any_more (λ s. used s i) rows k r lt),
      )

-- ---- the first that is not used

module _ (test : ℕ → Bool) (flags : List Bool) (are : AreUses test (length flags) flags) (k : ℕ) where
  pub goes_on : k < length flags → get_or flags k false ≡ true → first_unused test k (length flags - k) ≡ first_unused test (k + 1) (length flags - (k + 1))
  goes_on lt marked =
      let more : length flags - k ≡ suc (length flags - (k + 1)) = omega (arith, lt) in
      let here : test k ≡ true = sym (are.1 k lt) ∙ marked in
      rw (more, here) refl

  pub found : k < length flags → get_or flags k false ≡ false → first_unused test k (length flags - k) ≡ Some k
  found lt unmarked =
      let more : length flags - k ≡ suc (length flags - (k + 1)) = omega (arith, lt) in
      let here : test k ≡ false = sym (are.1 k lt) ∙ unmarked in
      rw (more, here) refl

  pub none_left : length flags ≤ k → first_unused test k (length flags - k) ≡ None
  none_left le =
      let none : length flags - k ≡ 0 = omega (arith, le) in
      rw none refl
