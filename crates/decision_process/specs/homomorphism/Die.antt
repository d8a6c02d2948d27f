-- A die that is rolled until it shows an even number stands for a coin that is flipped until it shows heads.
-- proofs/lemmas/homomorphism/Die.antt shows that the premises of the laws can be met here.
use Rattle.std.specs.Prelude.{◌≡◌, ◌*◌, ◌^◌, Bool, true, false, cond, List, [], ◌∷◌, Option, Some, refl}
use Rattle.decision_process.specs.Process.{Process, Outcome, Start}
use Rattle.decision_process.specs.Policies.{still}
use Rattle.decision_process.specs.Least.{least}
use Rattle.decision_process.specs.Rounded.{down, plain_high}
use Rattle.decision_process.specs.Coin as coin_flips
use Rattle.decision_process.specs.Coin.{Side, heads, tails, Move, flip, coin, flips}
use Rattle.decision_process.specs.homomorphism.Homomorphism.{Mapping}

pub data Face : Type 0 where
  one : Face
  two : Face
  three : Face
  four : Face
  five : Face
  six : Face

pub data Throw : Type 0 where
  roll : Throw

abbrev pub is_even : Face → Bool
is_even one = false
is_even two = true
is_even three = false
is_even four = true
is_even five = false
is_even six = true

abbrev pub shows : Face → Outcome Face
shows face = record { weight = 1; next = face; cost = 1000000 }

abbrev pub faces : List (Outcome Face)
faces = shows one ∷ shows two ∷ shows three ∷ shows four ∷ shows five ∷ shows six ∷ []

abbrev pub die : Process Face Throw
die = record {
  goal = is_even;
  choices = λ face. roll ∷ [];
  step = λ throw face. faces;
  den = 6;
  penalty = 10000000;
}

abbrev pub rolls : Face → Option Throw
rolls face = Some roll

-- a one or a three to begin with
abbrev pub starts : List (Start Face)
starts = record { weight = 1; state = one } ∷ record { weight = 1; state = three } ∷ []

abbrev pub side_of : Face → Side
side_of face = cond (is_even face) heads tails

abbrev pub as_coin : Mapping Face Side Throw Move
as_coin = record { valid = λ face. true; state = side_of; action = λ throw. Some flip }

-- over 36, where the coin's 6,000,000 is over 4
least_of_two_rolls : least die 2 one ≡ 54000000
least_of_two_rolls = refl

least_is_that_of_the_coin : least die 2 one * 2 ^ 2 ≡ least coin 2 tails * 6 ^ 2
least_is_that_of_the_coin = refl

-- a quarter
still_odd_after_two_rolls : still die rolls 2 one * 2 ^ 2 ≡ still coin flips 2 tails * 6 ^ 2
still_odd_after_two_rolls = refl

down_is_that_of_the_coin : down die 2 one ≡ down coin 2 tails
down_is_that_of_the_coin = refl

upper_end_is_that_of_the_coin : plain_high die starts 2 2 ≡ plain_high coin coin_flips.starts 1 2
upper_end_is_that_of_the_coin = refl
