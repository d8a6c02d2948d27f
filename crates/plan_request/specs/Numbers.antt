-- The numbers that options give.
--     whole least most text           a whole number from least to most, of 1 to 20 digits
--     amount least most text          an amount from least to most, in micro-units
--     unless_given default read text  what the text says, or the default where there is none
use Rattle.std.specs.Prelude.{ℕ, ◌&&◌, leb, List, length, Option, Some, None, Result, Ok, Err, option_and_then}
use Rattle.std.specs.Bool.{then_some}
use Rattle.std.specs.Str.Parse.{digits_value}
use Rattle.exact_fraction.specs.Numbers.{is_numeral, amount_of}
use Rattle.exact_fraction.specs.declared.refusal.NumberRefusal.{NumberRefusal}

infixl 10 ◌>>=◌
abbrev pub ◌>>=◌ : {A B : Type 0} → Option A → (A → Option B) → Option B
o >>= f = option_and_then f o

unfoldable pub whole : ℕ → ℕ → List ℕ → Option ℕ
whole least most text =
    then_some (is_numeral text && leb (length text) 20
    && leb least (digits_value 10 text) && leb (digits_value 10 text) most)
    (digits_value 10 text)

abbrev pub at_least : ℕ → Result ℕ NumberRefusal → Option ℕ
at_least least (Ok units) = then_some (leb least units) units
at_least least (Err refusal) = None

unfoldable pub amount : ℕ → ℕ → List ℕ → Option ℕ
amount least most text = at_least least (amount_of text most)

abbrev pub unless_given : {A : Type 0} → A → (List ℕ → Option A) → Option (List ℕ) → Option A
unless_given default read None = Some default
unless_given default read (Some text) = read text
