-- Numbers have no letters, so a text in letters of either case writes the same number.
use Rattle.std.proofs.Common.{◌≡◌, ℕ, ◌+◌, ◌&&◌, Bool, true, false, List, [], ◌∷◌, take, drop, refl, ap, ◌∙◌, arith}
use Rattle.std.specs.Char.{to_ascii_lowercase, is_ascii_digit}
use Rattle.std.specs.List.{position_or_len, before_first, after_first}
use Rattle.std.specs.Str.{str_to_ascii_lowercase}
use Rattle.std.proofs.lemmas.Bool.Decides.{nat_tests}
use Rattle.std.proofs.lemmas.List.{length-map, take-map, drop-map}
use Rattle.exact_fraction.specs.Numbers.{is_point, is_slash, are_digits, is_numeral, pointed, quotient, decimal_of, quotient_of, first_of, ratio_of, probability_from, amount_from}
use Rattle.exact_fraction.specs.Laws.{ProbabilitiesIgnoreCase, AmountsIgnoreCase}

abbrev lowered : List ℕ → List ℕ
lowered = str_to_ascii_lowercase

digit-lowered : (b : ℕ) → is_ascii_digit (to_ascii_lowercase b) ≡ is_ascii_digit b
digit-lowered b = grind (arith, nat_tests)

digit_stays : (b : ℕ) → is_ascii_digit b ≡ true → to_ascii_lowercase b ≡ b
digit_stays b is = grind (arith, nat_tests)

digits-lowered : (bs : List ℕ) → are_digits (lowered bs) ≡ are_digits bs
digits-lowered [] = refl
digits-lowered (b ∷ bs) = cc (digit-lowered b, digits-lowered bs)

both_true : (p q : Bool) → p && q ≡ true → (p ≡ true) × (q ≡ true)
both_true true q is = (refl, is)
both_true false q is = absurd cc

digits_stay : (bs : List ℕ) → are_digits bs ≡ true → lowered bs ≡ bs
digits_stay [] is = refl
digits_stay (b ∷ bs) is = let both = both_true (is_ascii_digit b) (are_digits bs) is in cc (digit_stays b both.0, digits_stay bs both.1)

numeral-lowered : (bs : List ℕ) → is_numeral (lowered bs) ≡ is_numeral bs
numeral-lowered bs = rw (length-map bs to_ascii_lowercase, digits-lowered bs) refl

numeral_stays : (bs : List ℕ) → is_numeral bs ≡ true → lowered bs ≡ bs
numeral_stays bs is = digits_stay bs (both_true _ (are_digits bs) is).1

-- ---- what stands before and after a byte that is no letter

module _ (p : ℕ → Bool) (same : (b : ℕ) → p (to_ascii_lowercase b) ≡ p b) where
  first-lowered : (bs : List ℕ) → position_or_len p (lowered bs) ≡ position_or_len p bs
  first-lowered [] = refl
  first-lowered (b ∷ bs) = cc (same b, first-lowered bs)

  before-lowered : (bs : List ℕ) → before_first p (lowered bs) ≡ lowered (before_first p bs)
  before-lowered bs = ap (λ k. take k (lowered bs)) (first-lowered bs) ∙ take-map to_ascii_lowercase (position_or_len p bs) bs

  after-lowered : (bs : List ℕ) → after_first p (lowered bs) ≡ lowered (after_first p bs)
  after-lowered bs = ap (λ k. drop (k + 1) (lowered bs)) (first-lowered bs) ∙ drop-map to_ascii_lowercase (position_or_len p bs + 1) bs

point-lowered : (b : ℕ) → is_point (to_ascii_lowercase b) ≡ is_point b
point-lowered b = grind (arith, nat_tests)

slash-lowered : (b : ℕ) → is_slash (to_ascii_lowercase b) ≡ is_slash b
slash-lowered b = grind (arith, nat_tests)

-- ---- the forms of numbers

pointed-lowered : (whole part : List ℕ) → pointed (lowered whole) (lowered part) ≡ pointed whole part
pointed-lowered whole part = by_test (are_digits whole && is_numeral part) refl
  where
    by_test : (t : Bool) → are_digits whole && is_numeral part ≡ t → pointed (lowered whole) (lowered part) ≡ pointed whole part
    by_test true is = let both = both_true (are_digits whole) (is_numeral part) is in rw (digits_stay whole both.0, numeral_stays part both.1) refl
    by_test false is =
        let none : are_digits (lowered whole) && is_numeral (lowered part) ≡ false = rw (digits-lowered whole, numeral-lowered part) is in
        rw (none, is) refl

quotient-lowered : (whole part : List ℕ) → quotient (lowered whole) (lowered part) ≡ quotient whole part
quotient-lowered whole part = by_test (is_numeral whole && is_numeral part) refl
  where
    by_test : (t : Bool) → is_numeral whole && is_numeral part ≡ t → quotient (lowered whole) (lowered part) ≡ quotient whole part
    by_test true is = let both = both_true (is_numeral whole) (is_numeral part) is in rw (numeral_stays whole both.0, numeral_stays part both.1) refl
    by_test false is =
        let none : is_numeral (lowered whole) && is_numeral (lowered part) ≡ false = rw (numeral-lowered whole, numeral-lowered part) is in
        rw (none, is) refl

decimal-lowered : (bs : List ℕ) → decimal_of (lowered bs) ≡ decimal_of bs
decimal-lowered bs = by_test (is_numeral bs) refl
  where
    by_test : (t : Bool) → is_numeral bs ≡ t → decimal_of (lowered bs) ≡ decimal_of bs
    by_test true is = rw (numeral_stays bs is) refl
    by_test false is =
        let none : is_numeral (lowered bs) ≡ false = numeral-lowered bs ∙ is in
        rw (none, is) (ap (λ b. pointed b (after_first is_point (lowered bs))) (before-lowered is_point point-lowered bs)
        ∙ ap (pointed (lowered (before_first is_point bs))) (after-lowered is_point point-lowered bs)
        ∙ pointed-lowered (before_first is_point bs) (after_first is_point bs))

ratio-lowered : (bs : List ℕ) → ratio_of (lowered bs) ≡ ratio_of bs
ratio-lowered bs =
    let quotients : quotient_of (lowered bs) ≡ quotient_of bs =
    ap (λ b. quotient b (after_first is_slash (lowered bs))) (before-lowered is_slash slash-lowered bs)
    ∙ ap (quotient (lowered (before_first is_slash bs))) (after-lowered is_slash slash-lowered bs)
    ∙ quotient-lowered (before_first is_slash bs) (after_first is_slash bs) in
    ap (λ r. first_of r (quotient_of (lowered bs))) (decimal-lowered bs) ∙ ap (first_of (decimal_of bs)) quotients

pub probability-lowered : ProbabilitiesIgnoreCase
probability-lowered bs = ap probability_from (ratio-lowered bs)

pub amount-lowered : AmountsIgnoreCase
amount-lowered bs most = ap (amount_from most) (decimal-lowered bs)

-- for readers of numbers
pub ruleset numbers_lowered = (probability-lowered, amount-lowered)
