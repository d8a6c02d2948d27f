-- Members of lists that are filtered, and places in lists that agree place by place.
use Rattle.std.proofs.Common.{◌≡◌, ℕ, suc, zero, ◌+◌, ◌<◌, ◌≤◌, Bool, true, false, cond, List, [], ◌∷◌, filter, Some, None, refl, sym, ap, subst, inl, inr, ◌⊎◌, ◌∙◌, arith}
use Rattle.std.specs.Prelude.{Contains, nat_eq}
use Rattle.std.specs.List.{slice_get, range_with_len, AllZip}
use Rattle.std.proofs.lemmas.Bool.{cases_lt, eq-eqb}
use Rattle.std.proofs.lemmas.Option.{slice_get-get_or}
use Rattle.plain_list.proofs.Members.{Contains-first, Contains-later, Contains-cons_cases, Contains-nil}
use Rattle.plain_list.specs.weighted.Mean.{positive}

chosen_cases : {X : Type 0} (b : Bool) (p : X → Bool) (x y : X) (rest : List X) → p x ≡ b
    → Contains (cond b (x ∷ rest) rest) y → ((p y ≡ true) × (x ≡ y)) ⊎ Contains rest y
chosen_cases true p x y rest e inside = elim (Contains-cons_cases x rest y inside) [
  | inl here ↦ inl (sym (ap p here) ∙ e, here)
  | inr later ↦ inr later
]
chosen_cases false p x y rest e inside = inr inside

pub Contains-filter_cases : {X : Type 0} (p : X → Bool) (xs : List X) (y : X) → Contains (filter p xs) y → Contains xs y × (p y ≡ true)
Contains-filter_cases p [] y inside = absurd (Contains-nil y inside)
Contains-filter_cases p (x ∷ xs) y inside = elim (chosen_cases (p x) p x y (filter p xs) refl inside) [
  | inl here ↦ (subst (λ z. Contains (x ∷ xs) z) here.1 (Contains-first x xs), here.0)
  | inr later ↦
      let rest : Contains xs y × (p y ≡ true) = Contains-filter_cases p xs y later in
      (Contains-later x xs y rest.0, rest.1)
]

pub Contains-range : (a n k : ℕ) → a ≤ k → k < a + n → Contains (range_with_len a n) k
Contains-range a zero k above below = absurd (omega arith)
Contains-range a (suc n) k above below = elim (cases_lt a k) [
  | inl later ↦ Contains-later a (range_with_len (a + 1) n) k (Contains-range (a + 1) n k (omega arith) (omega arith))
  | inr first ↦ let here : a ≡ k = omega arith in subst (λ z. Contains (range_with_len a (suc n)) z) here (Contains-first a (range_with_len (a + 1) n))
]

pub Contains-slice_get : {X : Type 0} (xs : List X) (x : X) → Contains xs x → (k : ℕ) × (slice_get xs k ≡ Some x)
Contains-slice_get xs x (k, within, here) = (k, slice_get-get_or xs k x within ∙ ap Some here)

some_is : {X : Type 0} (x y : X) → Some x ≡ Some y → x ≡ y
some_is x y e = cc

none_is : {X : Type 0} (x : X) → None ≡ Some x → ⊥
none_is x e = cc

pub zip_at : {A B : Type 0} (R : A → B → Type 0) (xs : List A) (ys : List B) → AllZip R xs ys
    → (k : ℕ) (x : A) → slice_get xs k ≡ Some x → (y : B) × (slice_get ys k ≡ Some y) × R x y
zip_at R [] ys zip k x e = absurd (none_is x e)
zip_at R (x ∷ xs) [] zip k z e = absurd zip
zip_at R (x ∷ xs) (y ∷ ys) zip zero z e = (y, refl, subst (λ w. R w y) (some_is x z e) zip.0)
zip_at R (x ∷ xs) (y ∷ ys) zip (suc k) z e = zip_at R xs ys zip.1 k z e

pub zip_back : {A B : Type 0} (R : A → B → Type 0) (xs : List A) (ys : List B) → AllZip R xs ys
    → (k : ℕ) (y : B) → slice_get ys k ≡ Some y → (x : A) × (slice_get xs k ≡ Some x) × R x y
zip_back R [] [] zip k y e = absurd (none_is y e)
zip_back R [] (y ∷ ys) zip k z e = absurd zip
zip_back R (x ∷ xs) [] zip k y e = absurd zip
zip_back R (x ∷ xs) (y ∷ ys) zip zero z e = (x, refl, subst (λ w. R x w) (some_is y z e) zip.0)
zip_back R (x ∷ xs) (y ∷ ys) zip (suc k) z e = zip_back R xs ys zip.1 k z e

positive_cases : {C : Type 0} (w : C → ℕ) (b : Bool) (x y : C) (rest : List C) → nat_eq (w x) 0 ≡ b
    → Contains {X = C} (elim b [ true ↦ rest | false ↦ x ∷ rest ]) y → ((x ≡ y) × (nat_eq (w x) 0 ≡ false)) ⊎ Contains rest y
positive_cases w true x y rest e inside = inr inside
positive_cases w false x y rest e inside = elim (Contains-cons_cases x rest y inside) [
  | inl here ↦ inl (here, e)
  | inr later ↦ inr later
]

above_zero : (n : ℕ) → nat_eq n 0 ≡ false → 0 < n
above_zero n e = elim (cases_lt 0 n) [
  | inl above ↦ above
  | inr none ↦ let zero' : nat_eq n 0 ≡ true = eq-eqb n 0 (omega arith) in absurd cc
]

pub positive_weighs : {C : Type 0} (w : C → ℕ) (xs : List C) (y : C) → Contains (positive w xs) y → 0 < w y
positive_weighs w [] y inside = absurd (Contains-nil y inside)
positive_weighs w (x ∷ xs) y inside = elim (positive_cases w (nat_eq (w x) 0) x y (positive w xs) refl inside) [
  | inl here ↦ subst (λ z. 0 < w z) here.0 (above_zero (w x) here.1)
  | inr later ↦ positive_weighs w xs y later
]
