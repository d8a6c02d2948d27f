-- Worked examples, which compute.
use Rattle.std.specs.Prelude.{◌≡◌, ◌*◌, ◌^◌, [], ◌∷◌, Ok, Err, codes, refl}
use Rattle.exact_fraction.specs.declared.refusal.NumberRefusal.TheVariants.{Form}
use Rattle.exact_fraction.specs.Divisors.{gcd_of, common_multiple}
use Rattle.exact_fraction.specs.Numbers.{probability_of, amount_of}

probability-point : probability_of (codes "00.50") ≡ Ok (record { num = 1; den = 2 })
probability-point = refl

probability-quotient : probability_of (codes "0/7") ≡ Ok (record { num = 0; den = 1 })
probability-quotient = refl

probability-form : probability_of (codes "1.") ≡ Err Form
probability-form = refl

amount-point : amount_of (codes "2.5") (10 ^ 12) ≡ Ok 2500000
amount-point = refl

gcd-example : gcd_of 84 36 ≡ 12
gcd-example = refl

gcd-example-zero : gcd_of 0 0 ≡ 0
gcd-example-zero = refl

gcd-example-large : gcd_of (123456789 * 10 ^ 21) (10 ^ 21) ≡ 10 ^ 21
gcd-example-large = refl

common_multiple-example : common_multiple (1000000000 ∷ 6 ∷ 64 ∷ []) ≡ 3000000000
common_multiple-example = refl
