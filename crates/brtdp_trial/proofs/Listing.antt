-- Sums, least numbers and first places over lists, one item at a time.
use Rattle.std.proofs.Common.{◌≡◌, ℕ, suc, zero, ◌+◌, ◌*◌, ◌^◌, ◌<◌, ◌≤◌, List, [], ◌∷◌, ◌++◌, length, take, get_or, refl, sym, ap, ◌∙◌, arith}
use Rattle.std.specs.Prelude.{◌≢◌, min, sum, map, cond}
use Rattle.std.proofs.lemmas.Bool.{eq-eqb, ne_eqb}
use Rattle.std.proofs.lemmas.List.{take_more, map-append}
use Rattle.std.proofs.Math.Nat.{mul-le-mul_left, mul-le-mul_right}
use Rattle.brtdp_trial.specs.Listed.{first_place, least}
use Rattle.brtdp_trial.proofs.Spreads.{sum-snoc}

pub term_within : (w x : ℕ) → w ≤ 10 ^ 18 → x ≤ 2 * 10 ^ 14 → w * x ≤ 10 ^ 18 * (2 * 10 ^ 14)
term_within w x small below =
    let first : w * x ≤ w * (2 * 10 ^ 14) = mul-le-mul_left w below in
    let second : w * (2 * 10 ^ 14) ≤ 10 ^ 18 * (2 * 10 ^ 14) = mul-le-mul_right (2 * 10 ^ 14) small in
    omega arith

min_swap : (a b c : ℕ) → min a (min b c) ≡ min b (min a c)
min_swap a b c = omega arith

least-snoc : (cap : ℕ) (xs : List ℕ) (x : ℕ) → least cap (xs ++ x ∷ []) ≡ min x (least cap xs)
least-snoc cap [] x = refl
least-snoc cap (y ∷ ys) x = ap (min y) (least-snoc cap ys x) ∙ min_swap y x (least cap ys)

module _ {X : Type 0} (f : X → ℕ) where
  map_more : (xs : List X) (i : ℕ) (x : X) → i < length xs → x ≡ get_or xs i x
      → map f (take (i + 1) xs) ≡ map f (take i xs) ++ f x ∷ []
  map_more xs i x within here =
      ap (map f) (take_more xs i x within) ∙ map-append f (take i xs) (get_or xs i x ∷ [])
      ∙ ap (λ y. map f (take i xs) ++ f y ∷ []) (sym here)

  pub sum_more : (xs : List X) (i : ℕ) (x : X) → i < length xs → x ≡ get_or xs i x
      → sum (map f (take (i + 1) xs)) ≡ sum (map f (take i xs)) + f x
  sum_more xs i x within here = ap sum (map_more xs i x within here) ∙ sum-snoc (map f (take i xs)) (f x)

  pub least_more : (cap : ℕ) (xs : List X) (i : ℕ) (x : X) → i < length xs → x ≡ get_or xs i x
      → least cap (map f (take (i + 1) xs)) ≡ min (f x) (least cap (map f (take i xs)))
  least_more cap xs i x within here =
      ap (least cap) (map_more xs i x within here) ∙ least-snoc cap (map f (take i xs)) (f x)

-- the first place at which x stands is i
pub first_found : (x : ℕ) (xs : List ℕ) (i : ℕ) → ((j : ℕ) → j < i → get_or xs j 0 ≢ x) → i < length xs
    → get_or xs i 0 ≡ x → first_place x xs ≡ i
first_found x [] i none within here = absurd (omega arith)
first_found x (y ∷ ys) zero none within here =
    ap (λ b. cond b 0 (suc (first_place x ys))) (eq-eqb x y (sym here))
first_found x (y ∷ ys) (suc i) none within here =
    ap (λ b. cond b 0 (suc (first_place x ys))) (ne_eqb x y (λ e. none 0 (omega arith) (sym e)))
    ∙ ap suc (first_found x ys i (λ j below. none (suc j) (omega arith)) (omega arith) here)

pub first_missing : (x : ℕ) (xs : List ℕ) → ((j : ℕ) → j < length xs → get_or xs j 0 ≢ x)
    → first_place x xs ≡ length xs
first_missing x [] none = refl
first_missing x (y ∷ ys) none =
    ap (λ b. cond b 0 (suc (first_place x ys))) (ne_eqb x y (λ e. none 0 (omega arith) (sym e)))
    ∙ ap suc (first_missing x ys (λ j below. none (suc j) (omega arith)))
