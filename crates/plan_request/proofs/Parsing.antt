-- What `parse` answers of digits, as a whole number in a range.
use Rattle.std.proofs.Common.{◌≡◌, refl, sym, ap, ◌∙◌, subst, ℕ, ◌<◌, ◌≤◌, ◌^◌, inl, inr, Bool, true, false, ◌&&◌, List, length, None, Result, Ok, Err, arith, true≢false, rules}
use Rattle.std.specs.Prelude.{leb, nat_lt}
use Rattle.std.specs.Bool.{then_some}
use Rattle.std.specs.List.{list_all}
use Rattle.std.specs.Char.{is_ascii_digit}
use Rattle.std.specs.Str.Parse.{digits_value, ParsesUnsigned}
use Rattle.std.proofs.lemmas.Bool.Decides.{leb_tells}
use Rattle.std.proofs.lemmas.Str.Parse.{IsDigitsTest, IsNumeralModel, numerals_by_value, parse_digits}
use Rattle.exact_fraction.specs.Numbers.{are_digits, is_numeral}
use Rattle.plan_request.specs.Numbers.{whole}

tells_digits : IsDigitsTest (λ ds. list_all is_ascii_digit ds ≡ true)
tells_digits = search rules

own : IsNumeralModel (λ ds. list_all is_ascii_digit ds ≡ true) (digits_value 10)
own = numerals_by_value (λ ds. list_all is_ascii_digit ds ≡ true) tells_digits

-- one of four tests fails
first_fails : (a b c d : Bool) (n : ℕ) → a ≡ false → then_some (a && b && c && d) n ≡ None
first_fails true b c d n e = absurd (true≢false e)
first_fails false b c d n e = refl

second_fails : (a b c d : Bool) (n : ℕ) → b ≡ false → then_some (a && b && c && d) n ≡ None
second_fails a true c d n e = absurd (true≢false e)
second_fails true false c d n e = refl
second_fails false false c d n e = refl

fourth_fails : (a b c d : Bool) (n : ℕ) → d ≡ false → then_some (a && b && c && d) n ≡ None
fourth_fails a b c true n e = absurd (true≢false e)
fourth_fails true true true false n e = refl
fourth_fails true true false false n e = refl
fourth_fails true false c false n e = refl
fourth_fails false b c false n e = refl

two_hold : (a b c d : Bool) (n : ℕ) → a ≡ true → b ≡ true → then_some (c && d) n ≡ then_some (a && b && c && d) n
two_hold true true c d n e f = refl
two_hold true false c d n e f = absurd (true≢false (sym f))
two_hold false b c d n e f = absurd (true≢false (sym e))

no_numeral : (text : List ℕ) → are_digits text ≡ false → is_numeral text ≡ false
no_numeral text e = elim (nat_lt 0 (length text)) as (λ b. (b && are_digits text) ≡ false) [ true ↦ e | false ↦ refl ]

short_numeral : (text : List ℕ) → nat_lt 0 (length text) ≡ false → is_numeral text ≡ false
short_numeral text e = ap (λ b. b && are_digits text) e

a_numeral : (text : List ℕ) → nat_lt 0 (length text) ≡ true → are_digits text ≡ true → is_numeral text ≡ true
a_numeral text e f = ap (λ b. b && are_digits text) e ∙ f

module _ (least most : ℕ) (text : List ℕ) where
  pub whole_long : 20 < length text → None ≡ whole least most text
  unfolding whole
  whole_long long =
      let beyond : leb (length text) 20 ≡ false = elim (leb_tells (length text) 20) [ inl holds ↦ absurd (omega (arith, holds.1, long)) | inr other ↦ other.0 ] in
      sym (second_fails (is_numeral text) (leb (length text) 20) (leb least (digits_value 10 text)) (leb (digits_value 10 text) most) _ beyond)

  pub whole_strange : are_digits text ≡ false → None ≡ whole least most text
  unfolding whole
  whole_strange strange =
      sym (first_fails (is_numeral text) (leb (length text) 20) (leb least (digits_value 10 text)) (leb (digits_value 10 text) most) _ (no_numeral text strange))

  module _ (digits : are_digits text ≡ true) where
    pub whole_parsed : {E : Type 0} (n : ℕ) (r : Result ℕ E) → r ≡ Ok n → ParsesUnsigned 64 10 text r → length text ≤ 20 → then_some (leb least n && leb n most) n ≡ whole least most text
    unfolding whole
    whole_parsed {E} n r gives parses short =
        let given : Result ℕ E = Ok n in
        let is = parse_digits own 64 text given (subst (λ a. ParsesUnsigned {E = E} 64 10 text a) gives parses) digits in
        let some : nat_lt 0 (length text) ≡ true = elim (leb_tells 1 (length text)) [ inl holds ↦ holds.0 | inr other ↦ absurd (omega (arith, other.1, is.0.0)) ] in
        let few : leb (length text) 20 ≡ true = elim (leb_tells (length text) 20) [ inl holds ↦ holds.0 | inr other ↦ absurd (omega (arith, other.1, short)) ] in
        ap (λ m. then_some (leb least m && leb m most) m) is.1
        ∙ two_hold (is_numeral text) (leb (length text) 20) (leb least (digits_value 10 text)) (leb (digits_value 10 text) most) _ (a_numeral text some digits) few

    pub whole_unparsed : {E : Type 0} (e : E) (r : Result ℕ E) → r ≡ Err e → ParsesUnsigned 64 10 text r → most < 2 ^ 64 → None ≡ whole least most text
    unfolding whole
    whole_unparsed {E} e r gives parses fits =
        let given : Result ℕ E = Err e in
        let is = parse_digits own 64 text given (subst (λ a. ParsesUnsigned {E = E} 64 10 text a) gives parses) digits in
        elim (leb_tells 1 (length text)) [
          | inr other ↦ sym (first_fails (is_numeral text) (leb (length text) 20) (leb least (digits_value 10 text)) (leb (digits_value 10 text) most) _ (short_numeral text other.0))
          | inl some ↦ elim (leb_tells (digits_value 10 text) most) [
            | inl within ↦ absurd (is (some.1, omega (arith, within.1, fits)))
            | inr above ↦ sym (fourth_fails (is_numeral text) (leb (length text) 20) (leb least (digits_value 10 text)) (leb (digits_value 10 text) most) _ above.0)
          ]
        ]
