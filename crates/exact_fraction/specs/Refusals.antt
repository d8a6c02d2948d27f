-- The numbers of the refusals of numbers.
use Rattle.std.specs.Prelude.{ℕ}
use Rattle.exact_fraction.specs.declared.refusal.NumberRefusal.{NumberRefusal}
use Rattle.exact_fraction.specs.declared.refusal.NumberRefusal.TheVariants.{Form, TooManyDigits}
use Rattle.exact_fraction.specs.declared.refusal.NumberRefusal.TheVariants.{ZeroDenominator, OutOfRange}

abbrev pub number_of : NumberRefusal → ℕ
number_of Form = 1
number_of TooManyDigits = 2
number_of ZeroDenominator = 3
number_of OutOfRange = 4
