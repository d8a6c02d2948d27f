-- Numbers that are read digit by digit.
use Rattle.std.proofs.Common.{◌≡◌, ℕ, ◌+◌, ◌-◌, ◌*◌, ◌≤◌, ◌<◌, true, false, ◌&&◌, leb, eqb, List, [], ◌∷◌, length, get_or, drop, Some, None, refl, ap, sym, ◌∙◌, inl, inr, arith}
use Rattle.std.specs.Str.{all_ascii_digits}
use Rattle.std.specs.Char.{is_ascii_digit}
use Rattle.std.specs.Prelude.{decimal}
use Rattle.std.specs.List.{list_any}
use Rattle.std.proofs.lemmas.Str.Parse.{IsNumeralModel, numerals_by_fold, tells_all_ascii_digits}
use Rattle.std.proofs.lemmas.Fmt.{decimal_nonempty, first_decimal, decimal_digit, decimal-digits_value, digits_decimal, digits_value-decimal}
use Rattle.std.proofs.lemmas.Bool.{lt-leb, le-leb, leb-true, ne_eqb, eqb-false, not-true, and_right, and_parts, cases_lt}
use Rattle.std.proofs.lemmas.List.{at_drop_more}
use Rattle.certificate.specs.declared.limits.TheConstants.{MOST_UNITS}
use Rattle.certificate.specs.Decoding.{is_plain, number_after, number_of}
use Rattle.certificate.proofs.Steps.{some_is, kept}

pub number_after_ge : (n : ℕ) (ds : List ℕ) → n ≤ number_after n ds
number_after_ge n [] = omega arith
number_after_ge n (d ∷ ds) = omega (arith, number_after_ge (n * 10 + (d - 48)) ds)

pub not_plain : (text : List ℕ) → is_plain text ≡ false → number_of text ≡ None
unfolding number_of
not_plain text apart = rw apart refl

-- digit i is n's next: what number_after makes of the rest
pub number_after_more : (text : List ℕ) (i n : ℕ) → i < length text → number_after n (drop i text) ≡ number_after (n * 10 + (get_or text i 0 - 48)) (drop (i + 1) text)
number_after_more text i n lt = at_drop_more (number_after n) text i 0 lt

pub digits_more : (text : List ℕ) (i : ℕ) → i < length text → is_ascii_digit (get_or text i 0) ≡ true → all_ascii_digits (drop i text) ≡ all_ascii_digits (drop (i + 1) text)
digits_more text i lt digit = at_drop_more all_ascii_digits text i 0 lt ∙ rw digit refl

pub not_digit : (text : List ℕ) (i : ℕ) → i < length text → is_ascii_digit (get_or text i 0) ≡ false → all_ascii_digits (drop i text) ≡ false
not_digit text i lt digit = at_drop_more all_ascii_digits text i 0 lt ∙ rw digit refl

pub no_digits : (text : List ℕ) → all_ascii_digits text ≡ false → number_of text ≡ None
unfolding number_of
no_digits text apart =
    let none : (is_plain text && all_ascii_digits text && leb (number_after 0 text) MOST_UNITS) ≡ false = rw (and_right (is_plain text) (all_ascii_digits text) apart) refl in
    rw none refl

pub too_great : (text : List ℕ) → MOST_UNITS < number_after 0 text → number_of text ≡ None
unfolding number_of
too_great text above =
    let no : leb (number_after 0 text) MOST_UNITS ≡ false = lt-leb _ _ above in
    let none : (is_plain text && all_ascii_digits text && leb (number_after 0 text) MOST_UNITS) ≡ false = rw no (and_right (is_plain text && all_ascii_digits text) false refl) in
    rw none refl

pub is_number : (text : List ℕ) → is_plain text ≡ true → all_ascii_digits text ≡ true → number_after 0 text ≤ MOST_UNITS → number_of text ≡ Some (number_after 0 text)
unfolding number_of
is_number text plain digits below =
    let fits : leb (number_after 0 text) MOST_UNITS ≡ true = le-leb _ _ below in
    rw (plain, digits, fits) refl

-- ---- the text of a number

own : IsNumeralModel (λ ds. all_ascii_digits ds ≡ true) (number_after 0)
own = numerals_by_fold _ tells_all_ascii_digits number_after (record { empty = λ n. refl; more = λ n c cs _. refl })

is_plain-long : (text : List ℕ) → is_plain text ≡ true → 0 < length text
is_plain-long [] e = absurd cc
is_plain-long (d ∷ ds) e = omega arith

is_plain-zero : (text : List ℕ) → is_plain text ≡ true → get_or text 0 0 ≡ 48 → length text ≡ 1
is_plain-zero [] e zero_first = absurd cc
is_plain-zero (d ∷ []) e zero_first = refl
is_plain-zero (d ∷ b ∷ ds) e zero_first = absurd (eqb-false d 48 (not-true (eqb d 48) e) zero_first)

is_plain-first : (text : List ℕ) → 0 < length text → 48 < get_or text 0 0 → is_plain text ≡ true
is_plain-first [] long first = absurd (omega arith)
is_plain-first (d ∷ []) long first = refl
is_plain-first (d ∷ b ∷ ds) long first = rw (ne_eqb d 48 (λ e. omega arith)) refl

pub decimal_is_plain : (n : ℕ) → n ≤ MOST_UNITS → is_plain (decimal n) ≡ true
decimal_is_plain n below =
    elim (cases_lt 0 n) [
      | inl above ↦ is_plain-first (decimal n) (decimal_nonempty n (omega arith)) (first_decimal n above (omega arith))
      | inr none ↦ (
          let nothing : n ≡ 0 = omega arith in
          rw (nothing, decimal_digit 0 (omega arith)) refl
          )
    ]

-- a number that was read is spelled so
pub number_is : (text : List ℕ) (n : ℕ) → number_of text ≡ Some n → (text ≡ decimal n) × (n ≤ MOST_UNITS)
unfolding number_of
number_is text n e =
    let passed = kept (is_plain text && all_ascii_digits text && leb (number_after 0 text) MOST_UNITS) (Some (number_after 0 text)) n e in
    let value : number_after 0 text ≡ n = some_is (number_after 0 text) n passed.1 in
    let last = and_parts (is_plain text && all_ascii_digits text) (leb (number_after 0 text) MOST_UNITS) passed.0 in
    let both = and_parts (is_plain text) (all_ascii_digits text) last.0 in
    let below : number_after 0 text ≤ MOST_UNITS = leb-true _ _ last.1 in
    let spelled : decimal (number_after 0 text) ≡ text = decimal-digits_value own text both.1 (is_plain-long text both.0) (is_plain-zero text both.0) (omega arith) in
    (sym spelled ∙ ap decimal value, omega arith)

pub number_again : (n : ℕ) → n ≤ MOST_UNITS → number_of (decimal n) ≡ Some n
number_again n below =
    let value : number_after 0 (decimal n) ≡ n = digits_value-decimal own n (omega arith) in
    is_number (decimal n) (decimal_is_plain n below) (digits_decimal own n (omega arith)) (omega (arith, value)) ∙ ap (λ (v : ℕ). Some v) value

pub digits_decimal_of : (n : ℕ) → n ≤ MOST_UNITS → all_ascii_digits (decimal n) ≡ true
digits_decimal_of n below = digits_decimal own n (omega arith)

pub digits_lack : (c : ℕ) (text : List ℕ) → c < 48 → all_ascii_digits text ≡ true → list_any (λ b. eqb b c) text ≡ false
digits_lack c [] low digits = refl
digits_lack c (d ∷ ds) low digits =
    let both = and_parts (is_ascii_digit d) (all_ascii_digits ds) digits in
    let range = and_parts (leb 48 d) (leb d 57) both.0 in
    let high : 48 ≤ d = leb-true 48 d range.0 in
    rw (ne_eqb d c (λ e. omega arith), digits_lack c ds low both.1) refl

-- no blank and no line feed stands in a number
pub decimal_lacks : (c n : ℕ) → c < 48 → n ≤ MOST_UNITS → list_any (λ b. eqb b c) (decimal n) ≡ false
decimal_lacks c n low below = digits_lack c (decimal n) low (digits_decimal_of n below)
