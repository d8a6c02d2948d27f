-- What a condition costs at least, where each atom that is false has a price. A condition costs as much as the dearest of its parts, and a
-- disjunction as the cheapest of its. What is false at first may stay so: that an atom is false costs nothing.
--     price_as r penalty b c     the price of making c true, where b is true, else false (which is the price of `Not c`), for the prices r
--     greatest_price, least_price r penalty b cs
--                                the greatest of these over several conditions, 0 without any; the least, the penalty without any
--     price r penalty c          the price of making c true
--     prices_at prices penalty   prices that stand in a list, by the number of the atom; the penalty past its end
-- Source: the heuristic h-max (Bonet and Geffner 2001), for conditions with disjunction and negation.
use Rattle.std.specs.Prelude.{ℕ, min, max, Bool, true, false, List, get_or}
use Rattle.ground_model.specs.declared.condition.GroundCondition.{GroundCondition}
use Rattle.ground_model.specs.declared.condition.GroundCondition.{Row_of-GroundCondition}
use Rattle.ground_model.specs.declared.condition.GroundCondition.{end_of-GroundCondition}
use Rattle.ground_model.specs.declared.condition.GroundCondition.{more_of-GroundCondition}
use Rattle.ground_model.specs.declared.condition.GroundCondition.TheVariants.{True, False, Atom}
use Rattle.ground_model.specs.declared.condition.GroundCondition.TheVariants.{Not', All', Any'}

abbrev mutual
  pub price_as : (ℕ → ℕ) → ℕ → Bool → GroundCondition → ℕ
  price_as r penalty true True = 0
  price_as r penalty false True = penalty
  price_as r penalty true False = penalty
  price_as r penalty false False = 0
  price_as r penalty true (Atom q) = r q
  price_as r penalty false (Atom q) = 0
  price_as r penalty true (Not' u (more_of-GroundCondition c end_of-GroundCondition)) =
      price_as r penalty false c
  price_as r penalty false (Not' u (more_of-GroundCondition c end_of-GroundCondition)) =
      price_as r penalty true c
  price_as r penalty true (All' shape cs) = greatest_price r penalty true cs
  price_as r penalty false (All' shape cs) = least_price r penalty false cs
  price_as r penalty true (Any' shape cs) = least_price r penalty true cs
  price_as r penalty false (Any' shape cs) = greatest_price r penalty false cs

  pub greatest_price : {n : _} → (ℕ → ℕ) → ℕ → Bool → Row_of-GroundCondition n → ℕ
  greatest_price r penalty b end_of-GroundCondition = 0
  greatest_price r penalty b (more_of-GroundCondition c cs) =
      max (price_as r penalty b c) (greatest_price r penalty b cs)

  pub least_price : {n : _} → (ℕ → ℕ) → ℕ → Bool → Row_of-GroundCondition n → ℕ
  least_price r penalty b end_of-GroundCondition = penalty
  least_price r penalty b (more_of-GroundCondition c cs) =
      min (price_as r penalty b c) (least_price r penalty b cs)

abbrev pub price : (ℕ → ℕ) → ℕ → GroundCondition → ℕ
price r penalty c = price_as r penalty true c

abbrev pub prices_at : List ℕ → ℕ → ℕ → ℕ
prices_at prices penalty q = get_or prices q penalty
