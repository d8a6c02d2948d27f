-- Quotients in the order of their products.
use Rattle.std.proofs.Common.{◌≡◌, ℕ, ◌+◌, ◌-◌, ◌*◌, ◌/◌, ◌<◌, ◌≤◌, subst, arith}
use Rattle.std.specs.Int.{div_ceil}
use Rattle.std.proofs.Math.Nat.{add-mul, mul_right_comm, mul-le-mul_right, mul-lt-mul_of_pos_right, lt_of_mul-lt-mul_right}
use mathlib.Core.Logic.{dite}
use native.Mathlib.Decide.{dec_le}
use Rattle.decision_process.proofs.Rounding.{floor-times_le, le-floor, ceiling_is_least}

-- quotients that are rounded down
module _ (x d y e : ℕ) (positive : 0 < d) (positive' : 0 < e) where
  pub quotient_below : x * e ≤ y * d → x / d ≤ y / e
  quotient_below below =
      let own : x / d * d * e ≤ x * e = mul-le-mul_right e (floor-times_le x d) in
      let turned : x / d * e * d ≡ x / d * d * e = mul_right_comm (x / d) e d in
      dite (dec_le (x / d * e) y)
      (λ within. le-floor (x / d) y e positive' within)
      (λ over.
      let more : y * d < x / d * e * d = mul-lt-mul_of_pos_right (let o : y < x / d * e = omega arith in o) positive in
      absurd (omega arith))

under_next : (x m d : ℕ) → 0 < d → (x ≤ (m + 1) * d - d → div_ceil x d < m + 1) × (div_ceil x d < m + 1 → x ≤ (m + 1) * d - d)
under_next x m d positive =
    let least = ceiling_is_least m x d positive in let next = add-mul m 1 d in (
      λ below. (let within = least.1 (omega (arith, below, next)) in omega arith),
      λ under. (let within = least.0 (omega arith) in omega (arith, within, next)),
    )

-- a quotient that is rounded up is under a number
pub ceiling_under : (x n d : ℕ) → 0 < d → d ≤ n * d → (x ≤ n * d - d → div_ceil x d < n) × (div_ceil x d < n → x ≤ n * d - d)
ceiling_under x n d positive over =
    let some : 0 < n = lt_of_mul-lt-mul_right d (let none : 0 * d < n * d = omega arith in none) in
    let is : n - 1 + 1 ≡ n = omega arith in
    subst (λ k. (x ≤ k * d - d → div_ceil x d < k) × (div_ceil x d < k → x ≤ k * d - d)) is (under_next x (n - 1) d positive)
