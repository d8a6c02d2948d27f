-- What the definitions of numbers and of divisors are, for texts of every length and every number.
--     ProbabilitiesAre..    a probability is in lowest terms, and has the value of its text
--     AmountsAreExact       an amount has the value of its text
--     ..IgnoreCase          letters of either case write the same number, or none
--     GcdIs.., LcmIs..      the greatest common divisor, the least common multiple: by divisibility
--     CommonMultipleIs..    the least common multiple of a list
use Rattle.std.specs.Prelude.{◌≡◌, ℕ, ◌<◌, List, All, IfOk}
use Rattle.std.specs.Int.{IsGcd}
use Rattle.std.specs.Str.{str_to_ascii_lowercase}
use Rattle.exact_fraction.specs.Divisors.{gcd_of, lcm_of, IsLeastMultiple}
use Rattle.exact_fraction.specs.Divisors.{common_multiple, IsLeastMultipleOf}
use Rattle.exact_fraction.specs.Numbers.{ratio_of, decimal_of, probability_of, amount_of}
use Rattle.exact_fraction.specs.Numbers.{IsProbability, HasValue, HasMicroUnits}

abbrev pub ProbabilitiesAreReduced : Type 0
ProbabilitiesAreReduced = (bs : List ℕ) → IfOk (probability_of bs) IsProbability

abbrev pub ProbabilitiesAreExact : Type 0
ProbabilitiesAreExact = (bs : List ℕ) → IfOk (probability_of bs) (HasValue (ratio_of bs))

abbrev pub AmountsAreExact : Type 0
AmountsAreExact = (bs : List ℕ) (most : ℕ)
    → IfOk (amount_of bs most) (HasMicroUnits (decimal_of bs))

abbrev pub ProbabilitiesIgnoreCase : Type 0
ProbabilitiesIgnoreCase = (bs : List ℕ)
    → probability_of (str_to_ascii_lowercase bs) ≡ probability_of bs

abbrev pub AmountsIgnoreCase : Type 0
AmountsIgnoreCase = (bs : List ℕ) (most : ℕ)
    → amount_of (str_to_ascii_lowercase bs) most ≡ amount_of bs most

abbrev pub GcdIsGreatest : Type 0
GcdIsGreatest = (a b : ℕ) → IsGcd a b (gcd_of a b)

abbrev pub GcdIsUnique : Type 0
GcdIsUnique = (a b g : ℕ) → IsGcd a b g → g ≡ gcd_of a b

abbrev pub LcmIsLeast : Type 0
LcmIsLeast = (a b : ℕ) → IsLeastMultiple a b (lcm_of a b)

abbrev pub LcmIsUnique : Type 0
LcmIsUnique = (a b m : ℕ) → IsLeastMultiple a b m → m ≡ lcm_of a b

abbrev pub LcmIsPositive : Type 0
LcmIsPositive = (a b : ℕ) → 0 < a → 0 < b → 0 < lcm_of a b

abbrev pub CommonMultipleIsLeast : Type 0
CommonMultipleIsLeast = (ds : List ℕ) → IsLeastMultipleOf ds (common_multiple ds)

abbrev pub CommonMultipleIsUnique : Type 0
CommonMultipleIsUnique = (ds : List ℕ) (m : ℕ) → IsLeastMultipleOf ds m → m ≡ common_multiple ds

abbrev pub CommonMultipleIsPositive : Type 0
CommonMultipleIsPositive = (ds : List ℕ) → All (λ d. 0 < d) ds → 0 < common_multiple ds
