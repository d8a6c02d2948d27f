-- Equal ratios: what is at most the one, or at least it, and their quotients.
use Rattle.std.proofs.Common.{◌≡◌, ℕ, suc, ◌+◌, ◌*◌, ◌^◌, ◌<◌, ◌≤◌, sym, ap, ◌∙◌, arith}
use Rattle.std.proofs.Math.Nat.{mul_assoc, mul_right_comm, add-mul, pow-suc, mul-le-mul_right, le_of_mul-le-mul_right, le_antisymm}
use Rattle.decision_process.specs.Backup.{floor, ceiling}
use Rattle.decision_process.proofs.Rounding.{floor_is_greatest, ceiling_is_least}

pub times_power : (value d n : ℕ) → value * d ^ suc n ≡ value * d ^ n * d
times_power value d n = ap (λ k. value * k) (pow-suc d n) ∙ sym (mul_assoc value (d ^ n) d)

-- a cost and a value, each over its own scale
pub same_sums : (c x y v u : ℕ) → v * y ≡ u * x → (c * x + v) * y ≡ (c * y + u) * x
same_sums c x y v u same = omega (arith, add-mul (c * x) v y, add-mul (c * y) u x, mul_right_comm c x y, same)

pub below_same : (value x d y e : ℕ) → 0 < d → x * e ≡ y * d → value * d ≤ x → value * e ≤ y
below_same value x d y e positive same below =
    let scaled : value * d * e ≤ x * e = mul-le-mul_right e below in
    let turned : value * d * e ≡ value * e * d = mul_right_comm value d e in
    let there : value * e * d ≤ y * d = omega (arith, scaled, turned, same) in
    le_of_mul-le-mul_right there positive

pub above_same : (value x d y e : ℕ) → 0 < d → x * e ≡ y * d → x ≤ value * d → y ≤ value * e
above_same value x d y e positive same above =
    let scaled : x * e ≤ value * d * e = mul-le-mul_right e above in
    let turned : value * d * e ≡ value * e * d = mul_right_comm value d e in
    let there : y * d ≤ value * e * d = omega (arith, scaled, turned, same) in
    le_of_mul-le-mul_right there positive

floor-le : (x d y e : ℕ) → 0 < d → 0 < e → x * e ≡ y * d → floor x d ≤ floor y e
floor-le x d y e positive positive' same =
    (floor_is_greatest (floor x d) y e positive').1
    (below_same (floor x d) x d y e positive same ((floor_is_greatest (floor x d) x d positive).0 (omega arith)))

pub floor-same : (x d y e : ℕ) → 0 < d → 0 < e → x * e ≡ y * d → floor x d ≡ floor y e
floor-same x d y e positive positive' same =
    le_antisymm (floor-le x d y e positive positive' same) (floor-le y e x d positive' positive (sym same))

ceiling-le : (x d y e : ℕ) → 0 < d → 0 < e → x * e ≡ y * d → ceiling y e ≤ ceiling x d
ceiling-le x d y e positive positive' same =
    (ceiling_is_least (ceiling x d) y e positive').1
    (above_same (ceiling x d) x d y e positive same ((ceiling_is_least (ceiling x d) x d positive).0 (omega arith)))

pub ceiling-same : (x d y e : ℕ) → 0 < d → 0 < e → x * e ≡ y * d → ceiling x d ≡ ceiling y e
ceiling-same x d y e positive positive' same =
    le_antisymm (ceiling-le y e x d positive' positive (sym same)) (ceiling-le x d y e positive positive' same)
