-- The probabilities of the line.
--     chance_read      the word of so many tenths is read as their probability
--     one_chance       one probability alone is all that is asked of probabilities
use Rattle.std.proofs.Common.{◌≡◌, ℕ, zero, suc, ◌+◌, ◌*◌, ◌/◌, ◌%◌, ◌^◌, ◌<◌, ◌≤◌, [], ◌∷◌, ◌++◌, codes, Ok, IfOk, refl, ap, sym, subst, ◌∙◌, arith}
use Rattle.std.proofs.Math.Nat.{div-le_self, div_self, dvd_refl}
use Rattle.std.specs.Int.{◌∣◌}
use Rattle.std.proofs.lemmas.Fmt.{decimal_digit}
use Rattle.std.proofs.lemmas.List.Elements.{All-nil, All-cons}
use Rattle.exact_fraction.specs.declared.fraction.Fraction.{Fraction}
use Rattle.exact_fraction.specs.Divisors.{gcd_of}
use Rattle.exact_fraction.specs.Numbers.{IsProbability, probability_of}
use Rattle.exact_fraction.proofs.NumberLemmas.{probability_of-reduced}
use Rattle.ppddl_model.specs.declared.limits.TheConstants.{MOST_DENOMINATOR}
use Rattle.ppddl_model.specs.WellFormed.{AreProbabilities}
use Rattle.plan_report.specs.Line.{tenths, numbered}
use Rattle.bench_line.specs.LineTask.{chance_of}

digit_read : (x : ℕ) → x < 9 → probability_of (codes "0." ++ (48 + (1 + x)) ∷ []) ≡ Ok (chance_of (1 + x))
digit_read zero h = refl
digit_read (suc zero) h = refl
digit_read (suc (suc zero)) h = refl
digit_read (suc (suc (suc zero))) h = refl
digit_read (suc (suc (suc (suc zero)))) h = refl
digit_read (suc (suc (suc (suc (suc zero))))) h = refl
digit_read (suc (suc (suc (suc (suc (suc zero)))))) h = refl
digit_read (suc (suc (suc (suc (suc (suc (suc zero))))))) h = refl
digit_read (suc (suc (suc (suc (suc (suc (suc (suc zero)))))))) h = refl
digit_read (suc (suc (suc (suc (suc (suc (suc (suc (suc x))))))))) h = absurd (omega arith)

pub chance_read : (seed i : ℕ) → probability_of (numbered (codes "0.") (tenths seed i)) ≡ Ok (chance_of (tenths seed i))
chance_read seed i =
    let x : ℕ = (seed % 9 + i * i) % 9 in
    let few : (seed % 9 + i * i) % 9 < 9 = omega arith in
    ap (λ ds. probability_of (codes "0." ++ ds)) (decimal_digit (1 + x) (omega arith)) ∙ digit_read x few

is_probability : (seed i : ℕ) → IsProbability (chance_of (tenths seed i))
is_probability seed i = subst (λ r. IfOk r IsProbability) (chance_read seed i) (probability_of-reduced (numbered (codes "0.") (tenths seed i)))

small_enough : (d q most : ℕ) → q ≤ d → d ≤ 10 ^ 9 → 10 ^ 9 ≤ most → q * 1 ≤ most
small_enough d q most a b c = omega arith

whole : (n d : ℕ) → 1 ≤ d → n ≤ d → n * (d / d) + 0 ≤ d
whole n d some least = let one : d / d ≡ 1 = div_self some in subst (λ k. n * k + 0 ≤ d) (sym one) (omega arith)

one_probability : (p : Fraction) → IsProbability p → AreProbabilities (p ∷ [])
one_probability p is = record {
  each = All-cons IsProbability p [] is (All-nil IsProbability);
  within = record {
    parts = p.den;
    positive = is.den_positive;
    common = All-cons (λ (c : Fraction). c.den ∣ p.den) p [] (dvd_refl p.den) (All-nil (λ (c : Fraction). c.den ∣ p.den));
    within = whole p.num p.den is.den_positive is.at_most_one;
  };
  common = small_enough p.den (p.den / gcd_of p.den 1) MOST_DENOMINATOR (div-le_self p.den (gcd_of p.den 1)) is.den_bounded (omega arith);
}

pub one_chance : (seed i : ℕ) → AreProbabilities (chance_of (tenths seed i) ∷ [])
one_chance seed i = one_probability (chance_of (tenths seed i)) (is_probability seed i)
