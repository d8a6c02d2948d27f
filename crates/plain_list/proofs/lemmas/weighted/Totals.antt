-- The total of a function over a list.
use Rattle.std.proofs.Common.{◌≡◌, ℕ, ◌+◌, ◌*◌, ◌≤◌, List, [], ◌∷◌, ◌++◌, map, refl, sym, ap, ◌∙◌, arith}
use Rattle.std.specs.Prelude.{Contains}
use Rattle.std.proofs.Math.Nat.{mul_assoc, mul-le-mul_left}
use Rattle.plain_list.specs.weighted.Mean.{total}
use Rattle.plain_list.proofs.Members.{Contains-first, Contains-later}

pub total-append : {C : Type 0} (f : C → ℕ) (xs ys : List C) → total f (xs ++ ys) ≡ total f xs + total f ys
total-append f [] ys = omega arith
total-append f (x ∷ xs) ys = omega (arith, total-append f xs ys)

pub total-map : {C D : Type 0} (f : D → ℕ) (g : C → D) (xs : List C) → total f (map g xs) ≡ total (λ c. f (g c)) xs
total-map f g [] = refl
total-map f g (x ∷ xs) = ap (λ t. f (g x) + t) (total-map f g xs)

pub total-same : {C : Type 0} (f g : C → ℕ) (xs : List C) → ((c : C) → Contains xs c → f c ≡ g c) → total f xs ≡ total g xs
total-same f g [] each = refl
total-same f g (x ∷ xs) each =
    omega (arith, each x (Contains-first x xs), total-same f g xs (λ c inside. each c (Contains-later x xs c inside)))

pub total-le : {C : Type 0} (f g : C → ℕ) (xs : List C) → ((c : C) → Contains xs c → f c ≤ g c) → total f xs ≤ total g xs
total-le f g [] each = omega arith
total-le f g (x ∷ xs) each = omega (arith, each x (Contains-first x xs), total-le f g xs (λ c inside. each c (Contains-later x xs c inside)))

pub total-add : {C : Type 0} (f g : C → ℕ) (xs : List C) → total (λ c. f c + g c) xs ≡ total f xs + total g xs
total-add f g [] = refl
total-add f g (x ∷ xs) = omega (arith, total-add f g xs)

pub total-times : {C : Type 0} (f : C → ℕ) (k : ℕ) (xs : List C) → total (λ c. f c * k) xs ≡ total f xs * k
total-times f k [] = omega arith
total-times f k (x ∷ xs) = ap (λ t. f x * k + t) (total-times f k xs) ∙ grind arith

-- values under the weights w, times a number
pub total-weighted_times : {C : Type 0} (w f : C → ℕ) (k : ℕ) (xs : List C) → total (λ c. w c * (f c * k)) xs ≡ total (λ c. w c * f c) xs * k
total-weighted_times w f k xs =
    total-same (λ c. w c * (f c * k)) (λ c. w c * f c * k) xs (λ c _. sym (mul_assoc (w c) (f c) k)) ∙ total-times (λ c. w c * f c) k xs

-- smaller values under the weights w
pub total-weighted_le : {C : Type 0} (w f g : C → ℕ) (xs : List C) → ((c : C) → Contains xs c → f c ≤ g c)
    → total (λ c. w c * f c) xs ≤ total (λ c. w c * g c) xs
total-weighted_le w f g xs each = total-le (λ c. w c * f c) (λ c. w c * g c) xs (λ c inside. mul-le-mul_left (w c) (each c inside))
