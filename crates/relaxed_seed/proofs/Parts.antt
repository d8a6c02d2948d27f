-- Prices of conditions that are built from their parts.
use Rattle.std.proofs.Common.{◌≡◌, ℕ, Bool, true, false, not, ◌≤◌, min, max, List, [], refl, ap, ◌∙◌, arith}
use denote.Hole.Carrier.{hidden}
use Rattle.ground_model.specs.declared.condition.GroundCondition.{GroundCondition, Row_of-GroundCondition, end_of-GroundCondition, more_of-GroundCondition, items-the_row-GroundCondition, items_hidden-the_row-GroundCondition-1}
use Rattle.ground_model.specs.declared.condition.GroundCondition.TheBlock.{shape-the_row-GroundCondition-0, hidden-the_row-GroundCondition-0, hidden-the_row-GroundCondition-1}
use Rattle.ground_model.specs.declared.condition.GroundCondition.TheVariants as condition
use Rattle.decision_process.proofs.Choice.{min_with-le_top}
use Rattle.relaxed_seed.specs.Prices.{price_as, greatest_price, least_price}
use Rattle.relaxed_seed.specs.Parts.{dearest, cheapest}

module _ (r : ℕ → ℕ) (penalty : ℕ) where
  greatest_row : (b : Bool) {n : _} (row : Row_of-GroundCondition n)
      → greatest_price r penalty b row ≡ dearest r penalty b (items-the_row-GroundCondition n row)
  greatest_row b end_of-GroundCondition = refl
  greatest_row b (more_of-GroundCondition c cs) = ap (max (price_as r penalty b c)) (greatest_row b cs)

  least_row : (b : Bool) {n : _} (row : Row_of-GroundCondition n)
      → least_price r penalty b row ≡ cheapest r penalty b (items-the_row-GroundCondition n row)
  least_row b end_of-GroundCondition = refl
  least_row b (more_of-GroundCondition c cs) = ap (min (price_as r penalty b c)) (least_row b cs)

  pub price-All_true : (cs : List GroundCondition) → price_as r penalty true (condition.All cs) ≡ dearest r penalty true cs
  price-All_true cs =
      greatest_row true (hidden-the_row-GroundCondition-1 cs)
      ∙ ap (dearest r penalty true) (items_hidden-the_row-GroundCondition-1 cs)

  pub price-All_false : (cs : List GroundCondition) → price_as r penalty false (condition.All cs) ≡ cheapest r penalty false cs
  price-All_false cs =
      least_row false (hidden-the_row-GroundCondition-1 cs)
      ∙ ap (cheapest r penalty false) (items_hidden-the_row-GroundCondition-1 cs)

  pub price-Any_true : (cs : List GroundCondition) → price_as r penalty true (condition.Any cs) ≡ cheapest r penalty true cs
  price-Any_true cs =
      least_row true (hidden-the_row-GroundCondition-1 cs)
      ∙ ap (cheapest r penalty true) (items_hidden-the_row-GroundCondition-1 cs)

  pub price-Any_false : (cs : List GroundCondition) → price_as r penalty false (condition.Any cs) ≡ dearest r penalty false cs
  price-Any_false cs =
      greatest_row false (hidden-the_row-GroundCondition-1 cs)
      ∙ ap (dearest r penalty false) (items_hidden-the_row-GroundCondition-1 cs)

  pub price-Not : (b : Bool) (c : GroundCondition) → price_as r penalty b (condition.Not c) ≡ price_as r penalty (not b) c
  unfolding shape-the_row-GroundCondition-0 hidden-the_row-GroundCondition-0 hidden
  price-Not true c = refl
  price-Not false c = refl

pub ruleset price_at = (price-All_true, price-All_false, price-Any_true, price-Any_false, price-Not)

-- the least of several prices is at most the penalty, so it is that of the penalty and these
pub cheapest_with_penalty : (r : ℕ → ℕ) (penalty : ℕ) (b : Bool) (cs : List GroundCondition)
    → min penalty (cheapest r penalty b cs) ≡ cheapest r penalty b cs
cheapest_with_penalty r penalty b cs = (let within = min_with-le_top penalty (price_as r penalty b) cs in omega (arith, within))

-- where no parts are left
pub cheapest_of_none : (r : ℕ → ℕ) (penalty found : ℕ) (b : Bool) (cs : List GroundCondition) → found ≤ penalty → cs ≡ []
    → found ≡ min found (cheapest r penalty b cs)
cheapest_of_none r penalty found b cs within none =
    let is : cheapest r penalty b cs ≡ penalty = ap (cheapest r penalty b) none in omega (arith, within, is)
