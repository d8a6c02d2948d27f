-- Counts that stop, added and multiplied.
use Rattle.std.proofs.Common.{◌≡◌, ℕ, zero, suc, ◌+◌, ◌*◌, ◌^◌, ◌<◌, ◌≤◌, inl, inr, add-one, refl, sym, ap, ◌∙◌, arith}
use Rattle.std.specs.Prelude.{min}
use Rattle.std.proofs.lemmas.Bool.{cases_lt}
use Rattle.std.proofs.Math.Nat.{mul_comm, pow-succ', pow-zero, pow-le-pow_left, pow-le-pow_right}
use Rattle.ground_terms.specs.sizes.Counted.{counted}

pub counted_within : (n : ℕ) → n < 18446744073709551616 → n ≡ counted n
counted_within n within = omega (arith, within)

pub counted-add : (a b : ℕ) → counted (counted a + counted b) ≡ counted (a + b)
counted-add a b = omega arith

pub counted-times : (a b : ℕ) → counted (counted a * b) ≡ counted (a * b)
counted-times a zero = ap counted (omega arith)
counted-times a (suc b) = elim (cases_lt a (2 ^ 64)) [
  | inl below ↦ let same : counted a ≡ a = omega arith in ap (λ k. counted (k * suc b)) same
  | inr above ↦
      let whole : counted a ≡ 18446744073709551615 = omega arith in
      let left : counted a ≤ counted a * suc b = grind arith in
      let right : a ≤ a * suc b = grind arith in
      omega arith
]

pub counted-mul : (a b : ℕ) → counted (counted a * counted b) ≡ counted (a * b)
counted-mul a b =
    counted-times a (counted b) ∙ ap counted (mul_comm a (counted b)) ∙ counted-times b a ∙ ap counted (mul_comm b a)

nothing : (n : ℕ) → 0 * n ≡ 0
nothing n = omega arith

pub ones : (n : ℕ) → 1 ^ n ≡ 1
ones zero = pow-zero 1
ones (suc n) = pow-succ' 1 n ∙ let later = ones n in omega arith

-- a power of a number below 2
pub low_power : (base exponent : ℕ) → base < 2 → (exponent ≡ 0 → ⊥) → base ≡ counted (base ^ exponent)
low_power zero zero low some = absurd (some refl)
low_power zero (suc n) low some = let none : 0 ≡ 0 ^ suc n = sym (pow-succ' 0 n ∙ nothing (0 ^ n)) in ap counted none
low_power (suc zero) exponent low some = ap counted (sym (ones exponent))
low_power (suc (suc base)) exponent low some = absurd (omega arith)

pub power_none : (base : ℕ) → 1 ≡ counted (base ^ 0)
power_none base = ap counted (sym (pow-zero base))

pub power_more : (base k power : ℕ) → power ≡ counted (base ^ k) → counted (power * base) ≡ counted (base ^ (k + 1))
power_more base k power is =
    ap (λ p. counted (p * base)) is ∙ counted-times (base ^ k) base
    ∙ ap counted (mul_comm (base ^ k) base ∙ sym (pow-succ' base k)) ∙ ap (λ n. counted (base ^ n)) (sym (add-one k))

pub high_power : (base exponent : ℕ) → 2 ≤ base → 64 ≤ exponent → 18446744073709551616 ≤ base ^ exponent
high_power base exponent two many =
    let least : 2 ^ 64 ≤ base ^ 64 = pow-le-pow_left two 64 in
    let later : base ^ 64 ≤ base ^ exponent = pow-le-pow_right {n = base} (omega arith) {i = 64} {j = exponent} many in
    omega arith

-- where a power of a number above 1 has so many factors that it stops, it stops with each further one
pub power_end : (base exponent k power : ℕ) → (base < 2 → ⊥) → k ≡ min exponent 64 → power ≡ counted (base ^ k) → power ≡ counted (base ^ exponent)
power_end base exponent k power high is so_far = elim (cases_lt exponent 64) [
  | inl few ↦ let same : k ≡ exponent = omega arith in so_far ∙ ap (λ n. counted (base ^ n)) same
  | inr many ↦
      let same : k ≡ 64 = omega arith in
      let here : power ≡ counted (base ^ 64) = so_far ∙ ap (λ n. counted (base ^ n)) same in
      let two : 2 ≤ base = omega (arith, high) in
      let least : 2 ^ 64 ≤ base ^ 64 = pow-le-pow_left two 64 in
      let later : base ^ 64 ≤ base ^ exponent = pow-le-pow_right {n = base} (omega arith) {i = 64} {j = exponent} many in
      stopped power (base ^ 64) (base ^ exponent) here least later
]
  where
    stopped : (power a b : ℕ) → power ≡ counted a → 18446744073709551616 ≤ a → a ≤ b → power ≡ counted b
    stopped power a b here least later = omega arith

pub sum_of_two : (result sum a b m n whole : ℕ) → result ≡ counted (sum + 1) → sum ≡ counted (a + b) → a ≡ counted m → b ≡ counted n
    → whole ≡ 1 + m + n → result ≡ counted whole
sum_of_two result sum a b m n whole last first left right is = omega arith

pub product_of_two : (result product a b m n whole : ℕ) → result ≡ counted (product + 1) → product ≡ counted (a * b) → a ≡ counted m → b ≡ counted n
    → whole ≡ 1 + m * n → result ≡ counted whole
product_of_two result product a b m n whole last first left right is =
    let times : product ≡ counted (m * n) = first ∙ ap (λ k. counted (k * b)) left ∙ ap (λ k. counted (counted m * k)) right ∙ counted-mul m n in
    more result product (m * n) whole last times is
  where
    more : (result product all whole : ℕ) → result ≡ counted (product + 1) → product ≡ counted all → whole ≡ 1 + all → result ≡ counted whole
    more result product all whole last times is = omega arith
