-- Merging like items of a weighted list.
use Rattle.std.proofs.Common.{◌≡◌, ℕ, ◌+◌, ◌*◌, ◌≤◌, List, [], ◌∷◌, length, Bool, true, false, refl, ap, ◌∙◌, arith}
use Rattle.std.proofs.Math.Nat.{add-mul}
use Rattle.plain_list.specs.weighted.Mean.{total, mean}
use Rattle.plain_list.specs.weighted.Merged.{with_item, with_items, merged}
use Rattle.plain_list.specs.weighted.Operations.{IsMerge}
use Rattle.plain_list.proofs.lemmas.weighted.Means.{same_totals}

module _ {C X : Type 0} (w : C → ℕ) (key : C → X) (like : C → C → Bool) (merge : C → C → C) (is : IsMerge w key like merge) where
  mean-merged_first : (v : X → ℕ) (xs rest : List C) (x y : C) (is_like : Bool) → (is_like ≡ true → like x y ≡ true)
      → mean w key v rest ≡ mean w key v xs + w y * v (key y)
      → mean w key v (elim is_like [ true ↦ merge x y ∷ xs | false ↦ x ∷ rest ]) ≡ w x * v (key x) + mean w key v xs + w y * v (key y)
  mean-merged_first v xs rest x y true alike later =
      let both : w (merge x y) * v (key (merge x y)) ≡ (w x + w y) * v (key x)
      = ap (λ t. t * v (key (merge x y))) (is.weights x y (alike refl)) ∙ ap (λ k. (w x + w y) * v k) (is.keys x y (alike refl)) in
      let second : w y * v (key y) ≡ w y * v (key x) = ap (λ k. w y * v k) (is.same_keys x y (alike refl)) in
      omega (arith, both, second, add-mul (w x) (w y) (v (key x)))
  mean-merged_first v xs rest x y false alike later = omega (arith, later)

  pub mean-with_item : (v : X → ℕ) (xs : List C) (y : C) → mean w key v (with_item like merge xs y) ≡ mean w key v xs + w y * v (key y)
  mean-with_item v [] y = omega arith
  mean-with_item v (x ∷ xs) y = mean-merged_first v xs (with_item like merge xs y) x y (like x y) (λ e. e) (mean-with_item v xs y)

  pub mean-with_items : (v : X → ℕ) (xs ys : List C) → mean w key v (with_items like merge xs ys) ≡ mean w key v xs + mean w key v ys
  mean-with_items v xs [] = omega arith
  mean-with_items v xs (y ∷ ys) = omega (arith, mean-with_items v (with_item like merge xs y) ys, mean-with_item v xs y)

  pub mean-merged : (v : X → ℕ) (xs : List C) → mean w key v (merged like merge xs) ≡ mean w key v xs
  mean-merged v xs = omega (arith, mean-with_items v [] xs)

  pub total-merged : (xs : List C) → total w (merged like merge xs) ≡ total w xs
  total-merged xs = same_totals w key (merged like merge xs) xs (λ v. mean-merged v xs)

module _ {C : Type 0} (like : C → C → Bool) (merge : C → C → C) where
  length-merged_first : (xs rest : List C) (x y : C) (is_like : Bool) → (length xs ≤ length rest) × (length rest ≤ length xs + 1)
      → (length (x ∷ xs) ≤ length {A = C} (elim is_like [ true ↦ merge x y ∷ xs | false ↦ x ∷ rest ])) ×
      (length {A = C} (elim is_like [ true ↦ merge x y ∷ xs | false ↦ x ∷ rest ]) ≤ length (x ∷ xs) + 1)
  length-merged_first xs rest x y true bounds = (omega arith, omega arith)
  length-merged_first xs rest x y false bounds = (omega arith, omega arith)

  pub length-with_item : (xs : List C) (y : C)
      → (length xs ≤ length (with_item like merge xs y)) × (length (with_item like merge xs y) ≤ length xs + 1)
  length-with_item [] y = (omega arith, omega arith)
  length-with_item (x ∷ xs) y = length-merged_first xs (with_item like merge xs y) x y (like x y) (length-with_item xs y)

  pub length-with_items : (xs ys : List C)
      → (length xs ≤ length (with_items like merge xs ys)) × (length (with_items like merge xs ys) ≤ length xs + length ys)
  length-with_items xs [] = (omega arith, omega arith)
  length-with_items xs (y ∷ ys) =
      let first = length-with_item xs y in
      let rest = length-with_items (with_item like merge xs y) ys in
      (omega (arith, first.0, rest.0), omega (arith, first.1, rest.1))
