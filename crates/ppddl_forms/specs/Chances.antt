-- The chances of one `probabilistic`.
-- Source: PPDDL 1.0 (Younes and Littman 2004).
--     common_of chances       the least common multiple of their denominators, in lowest terms
--     shares_of chances       their sum, in shares of that multiple
--     within seen p a         p behind the chances seen: the common multiple is in range, and then the sum is at most 1
--     next_chance seen        a probability that is so
--     IsRunning chances ..    the two numbers that are kept of chances
use Rattle.std.specs.Prelude.{◌≡◌, ℕ, ◌≤◌, ◌<◌, nat_lt, List, [], ◌∷◌, ◌++◌, if◌then◌else◌, Result, Ok}
use Rattle.exact_fraction.specs.declared.fraction.Fraction.{Fraction}
use Rattle.exact_fraction.specs.Divisors.{common_multiple}
use Rattle.ppddl_model.specs.Denominator.{denominators_of, share}
use Rattle.ppddl_model.specs.declared.limits.TheConstants.{MOST_DENOMINATOR}
use Rattle.ppddl_model.specs.declared.refusal.TextCode.TheVariants.{Probability, SumAboveOne}
use Rattle.plain_list.specs.weighted.Mean.{total}
use Rattle.ppddl_cursor.specs.declared.place.Place.{Place}
use Rattle.ppddl_cursor.specs.Forms.{Form}
use Rattle.ppddl_cursor.specs.Reading.{Fault, fails}
use Rattle.ppddl_cursor.specs.Sequences.{checking, located}
use Rattle.ppddl_forms.specs.Words.{probability}

abbrev pub common_of : List Fraction → ℕ
common_of chances = common_multiple (denominators_of chances)

abbrev pub shares_of : List Fraction → ℕ
shares_of chances = total (share (common_of chances)) chances

abbrev pub within : List Fraction → Fraction → Place → Result Fraction Fault
within seen p a =
    if nat_lt MOST_DENOMINATOR (common_of (seen ++ p ∷ [])) then fails Probability a
    else if nat_lt (common_of (seen ++ p ∷ [])) (shares_of (seen ++ p ∷ [])) then fails SumAboveOne a
    else Ok p

unfoldable pub next_chance : List Fraction → Form → Result Fraction Fault
next_chance seen = checking (λ p. within seen p.0 p.1) (located probability)

pub record IsRunning (chances : List Fraction) (den num : ℕ) : Type 0 where
  pub common : den ≡ common_of chances
  pub shares : num ≡ shares_of chances
  pub positive : 0 < den
  pub most : den ≤ MOST_DENOMINATOR
  pub sum : num ≤ den
