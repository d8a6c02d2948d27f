-- Words of forms, in lower case, or why they are refused.
--     name                a name, and where it stands
--     variable            a variable, and where it stands
--     flag                a word that begins with `:`
--     amount least most   an amount of money in this range, in micro-units
--     probability         a probability
--     reward              `( reward )` or `reward`
use Rattle.std.specs.Prelude.{ℕ, nat_lt, if◌then◌else◌, Result, Ok, Err}
use Rattle.exact_fraction.specs.declared.fraction.Fraction.{Fraction}
use Rattle.exact_fraction.specs.declared.refusal.NumberRefusal.{NumberRefusal}
use Rattle.exact_fraction.specs.declared.refusal.NumberRefusal.TheVariants as number
use Rattle.exact_fraction.specs.Numbers.{amount_of, probability_of}
use Rattle.ppddl_lex.specs.declared.keywords.TheConstants.{REWARD}
use Rattle.ppddl_lex.specs.Words.{is_name, is_variable, is_flag}
use Rattle.ppddl_model.specs.declared.refusal.TextCode.{TextCode}
use Rattle.ppddl_model.specs.declared.refusal.TextCode.TheVariants.{Expected, Probability, Number}
use Rattle.ppddl_cursor.specs.declared.place.Place.{Place}
use Rattle.ppddl_cursor.specs.Forms.{Form}
use Rattle.ppddl_cursor.specs.Reading.{Fault, fails}
use Rattle.ppddl_cursor.specs.Sequences.{of_word, word_or_group, group_with, last, keyword}
use Rattle.ppddl_forms.specs.declared.name.Name.{Name}

unfoldable pub name : Form → Result Name Fault
name = of_word (λ w a. if is_name w then Ok (record { text = w; place = a }) else fails Expected a)

unfoldable pub variable : Form → Result Name Fault
variable = of_word (λ w a. if is_variable w then Ok (record { text = w; place = a }) else fails Expected a)

unfoldable pub flag : Form → Result (Unit {0}) Fault
flag = of_word (λ w a. if is_flag w then Ok tt else fails Expected a)

abbrev pub amount_by : ℕ → Place → Result ℕ NumberRefusal → Result ℕ Fault
amount_by least a (Ok n) = if nat_lt n least then fails Number a else Ok n
amount_by least a (Err e) = fails Number a

unfoldable pub amount : ℕ → ℕ → Form → Result ℕ Fault
amount least most = of_word (λ w a. amount_by least a (amount_of w most))

abbrev pub probability_code : NumberRefusal → TextCode
probability_code number.Form = Number
probability_code number.TooManyDigits = Number
probability_code number.ZeroDenominator = Number
probability_code number.OutOfRange = Probability

abbrev pub probability_by : Place → Result Fraction NumberRefusal → Result Fraction Fault
probability_by a (Ok p) = Ok p
probability_by a (Err e) = fails (probability_code e) a

unfoldable pub probability : Form → Result Fraction Fault
probability = of_word (λ w a. probability_by a (probability_of w))

unfoldable pub reward : Form → Result (Unit {0}) Fault
reward = word_or_group (keyword REWARD.now) (group_with REWARD.now (last tt))
