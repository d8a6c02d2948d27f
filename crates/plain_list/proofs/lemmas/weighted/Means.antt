-- The mean of a weighted list.
use Rattle.std.proofs.Common.{◌≡◌, ℕ, ◌+◌, ◌*◌, List, [], ◌∷◌, map, Bool, true, false, refl, sym, ap, ◌∙◌, arith}
use Rattle.std.specs.Prelude.{Contains, nat_eq}
use Rattle.std.proofs.Math.Nat.{mul_assoc, mul_comm, mul_right_comm, mul-add}
use Rattle.std.proofs.lemmas.Bool.{eqb-true}
use Rattle.plain_list.specs.weighted.Mean.{total, mean, products, positive}
use Rattle.plain_list.specs.weighted.Operations.{IsProduct, IsScaled, IsReduced}
use Rattle.plain_list.proofs.lemmas.weighted.Totals.{total-append, total-map, total-same, total-add, total-times, total-weighted_times}

module _ {C X : Type 0} (w : C → ℕ) (key : C → X) where
  pub mean-same : (v u : X → ℕ) (xs : List C) → ((c : C) → Contains xs c → v (key c) ≡ u (key c)) → mean w key v xs ≡ mean w key u xs
  mean-same v u xs each = total-same (λ c. w c * v (key c)) (λ c. w c * u (key c)) xs (λ c inside. ap (λ t. w c * t) (each c inside))

  pub mean-add : (v u : X → ℕ) (xs : List C) → mean w key (λ x. v x + u x) xs ≡ mean w key v xs + mean w key u xs
  mean-add v u xs =
      total-same (λ c. w c * (v (key c) + u (key c))) (λ c. w c * v (key c) + w c * u (key c)) xs
      (λ c _. mul-add (w c) (v (key c)) (u (key c)))
      ∙ total-add (λ c. w c * v (key c)) (λ c. w c * u (key c)) xs

  pub mean-times : (v : X → ℕ) (k : ℕ) (xs : List C) → mean w key (λ x. v x * k) xs ≡ mean w key v xs * k
  mean-times v k xs = total-weighted_times w (λ c. v (key c)) k xs

  pub mean-constant : (k : ℕ) (xs : List C) → mean w key (λ x. k) xs ≡ total w xs * k
  mean-constant k xs = total-times w k xs

  total-is_mean : (xs : List C) → total w xs ≡ mean w key (λ x. 1) xs
  total-is_mean xs = omega (arith, mean-constant 1 xs)

  -- lists of one mean at each value have one total weight
  pub same_totals : (xs ys : List C) → ((v : X → ℕ) → mean w key v xs ≡ mean w key v ys) → total w xs ≡ total w ys
  same_totals xs ys same = total-is_mean xs ∙ same (λ x. 1) ∙ sym (total-is_mean ys)

  drop_one : (v : X → ℕ) (xs rest : List C) (x : C) (is_zero : Bool) → (is_zero ≡ true → w x ≡ 0) → mean w key v rest ≡ mean w key v xs
      → mean w key v (elim is_zero [ true ↦ rest | false ↦ x ∷ rest ]) ≡ w x * v (key x) + mean w key v xs
  drop_one v xs rest x true weightless same =
      let none : w x * v (key x) ≡ 0 * v (key x) = ap (λ t. t * v (key x)) (weightless refl) in
      omega (arith, none, same)
  drop_one v xs rest x false weightless same = omega (arith, same)

  pub mean-positive : (v : X → ℕ) (xs : List C) → mean w key v (positive w xs) ≡ mean w key v xs
  mean-positive v [] = refl
  mean-positive v (x ∷ xs) = drop_one v xs (positive w xs) x (nat_eq (w x) 0) (λ e. eqb-true (w x) 0 e) (mean-positive v xs)

pub total-positive : {C : Type 0} (w : C → ℕ) (xs : List C) → total w (positive w xs) ≡ total w xs
total-positive w xs = same_totals w (λ c. c) (positive w xs) xs (λ v. mean-positive w (λ c. c) v xs)

module _ {C D X : Type 0} (w : C → ℕ) (key : C → X) (w' : D → ℕ) (key' : D → X) (k : ℕ) (g : C → D) (xs : List C) where
  pub mean-scaled : IsScaled w key w' key' k g xs → (v : X → ℕ) → mean w' key' v (map g xs) ≡ mean w key v xs * k
  mean-scaled scaled v =
      total-map (λ d. w' d * v (key' d)) g xs
      ∙ total-same (λ c. w' (g c) * v (key' (g c))) (λ c. w c * v (key c) * k) xs
      (λ c inside.
      ap (λ t. t * v (key' (g c))) (scaled.weights c inside) ∙ ap (λ x. w c * k * v x) (scaled.keys c inside)
      ∙ mul_right_comm (w c) k (v (key c)))
      ∙ total-times (λ c. w c * v (key c)) k xs

  pub mean-reduced : IsReduced w key w' key' k g xs → (v : X → ℕ) → mean w' key' v (map g xs) * k ≡ mean w key v xs
  mean-reduced reduced v =
      ap (λ t. t * k) (total-map (λ d. w' d * v (key' d)) g xs)
      ∙ sym (total-times (λ c. w' (g c) * v (key' (g c))) k xs)
      ∙ total-same (λ c. w' (g c) * v (key' (g c)) * k) (λ c. w c * v (key c)) xs
      (λ c inside.
      mul_right_comm (w' (g c)) (v (key' (g c))) k ∙ ap (λ t. t * v (key' (g c))) (reduced.weights c inside)
      ∙ ap (λ x. w c * v x) (reduced.keys c inside))

module _ {C X : Type 0} (w : C → ℕ) (key : C → X) (join : C → C → C) (combine : X → X → X) (product : IsProduct w key join combine) where
  mean-joined : (v : X → ℕ) (x : C) (ys : List C) → mean w key v (map (join x) ys) ≡ w x * mean w key (λ y. v (combine (key x) y)) ys
  mean-joined v x ys =
      total-map (λ c. w c * v (key c)) (join x) ys
      ∙ total-same (λ c. w (join x c) * v (key (join x c))) (λ c. w c * v (combine (key x) (key c)) * w x) ys
      (λ c _.
      ap (λ t. t * v (key (join x c))) (product.weights x c) ∙ ap (λ y. w x * w c * v y) (product.keys x c)
      ∙ mul_assoc (w x) (w c) (v (combine (key x) (key c))) ∙ mul_comm (w x) (w c * v (combine (key x) (key c))))
      ∙ total-times (λ c. w c * v (combine (key x) (key c))) (w x) ys ∙ mul_comm (mean w key (λ y. v (combine (key x) y)) ys) (w x)

  pub mean-products : (v : X → ℕ) (xs ys : List C)
      → mean w key v (products join xs ys) ≡ mean w key (λ x. mean w key (λ y. v (combine x y)) ys) xs
  mean-products v [] ys = refl
  mean-products v (x ∷ xs) ys =
      total-append (λ c. w c * v (key c)) (map (join x) ys) (products join xs ys)
      ∙ ap (λ t. t + mean w key v (products join xs ys)) (mean-joined v x ys)
      ∙ ap (λ t. w x * mean w key (λ y. v (combine (key x) y)) ys + t) (mean-products v xs ys)

  pub total-products : (xs ys : List C) → total w (products join xs ys) ≡ total w xs * total w ys
  total-products xs ys =
      total-is_mean w key (products join xs ys) ∙ mean-products (λ x. 1) xs ys ∙ mean-constant w key (mean w key (λ x. 1) ys) xs
      ∙ ap (λ t. total w xs * t) (sym (total-is_mean w key ys))
