-- The coin that is flipped until it shows heads: a pair that says its least expected cost, 2,000,000, of every state.
-- The lower values come from two layers that share the cost of a flip; each sees the side that shows. The upper values come from two
-- partial rows, of the states that are heads and of the others. A certificate over the pair needs no row. proofs/Coin.antt shows that the
-- premises of the laws are met here. The least cost of any number of flips is below it (`OptimumDoesNotCover`).
use Rattle.std.specs.Prelude.{◌≡◌, ℕ, ◌*◌, true, not, List, [], ◌∷◌, Some, refl}
use Rattle.decision_process.specs.Readings.{Row, AtGoal, GivesUp, Takes, Certificate}
use Rattle.decision_process.specs.Coin.{Side, heads, tails, Move, flip, is_heads, coin, same_side}
use Rattle.balanced_pair.specs.Pairs.{Pair, plain, low_over, high_over, act_over}
use Rattle.balanced_pair.specs.partial_rows.PartialRows.{PartialRow, partial_high, partial_act}
use Rattle.balanced_pair.specs.layers.Layers.{Branch, Layer, layers_low}

-- ---- layers

abbrev pub to : Side → Branch Side
to side = record { weight = 1; nexts = side ∷ [] }

abbrev pub by_side : ℕ → Side → ℕ
by_side value heads = 0
by_side value tails = value

-- a layer with a share of the cost of a flip, and twice as much as its lower value of tails
abbrev pub sharing : ℕ → Layer Side Move Side
sharing share = record {
  project = λ side. side;
  low = by_side (2 * share);
  penalty = 5000000;
  may_end = is_heads;
  may_open = λ move side. true;
  touches = λ move. true;
  branches = λ move side. to heads ∷ to tails ∷ [];
  share = λ move i. share;
}

abbrev pub group : List (Layer Side Move Side)
group = sharing 400000 ∷ sharing 600000 ∷ []

-- ---- partial rows

abbrev pub at_heads : PartialRow Side Move
at_heads = record { holds = is_heads; upper = 0; act = AtGoal }

abbrev pub until_heads : PartialRow Side Move
until_heads = record { holds = λ side. not (is_heads side); upper = 2000000; act = Takes flip }

abbrev pub rows : List (PartialRow Side Move)
rows = at_heads ∷ until_heads ∷ []

-- ---- the pair

abbrev pub optimum : Pair Side Move
optimum = record {
  low = layers_low coin (group ∷ []);
  high = partial_high coin rows;
  act = partial_act coin rows;
}

low_at_tails : optimum.low tails ≡ 2000000
low_at_tails = refl

low_at_heads : optimum.low heads ≡ 0
low_at_heads = refl

high_at_tails : optimum.high tails ≡ 2000000
high_at_tails = refl

high_at_heads : optimum.high heads ≡ 0
high_at_heads = refl

act_at_tails : optimum.act tails ≡ Some flip
act_at_tails = refl

-- without layers and partial rows, the plain pair
low_without_layers : layers_low {V = Side} coin [] tails ≡ (plain coin).low tails
low_without_layers = refl

high_without_rows : partial_high coin [] tails ≡ (plain coin).high tails
high_without_rows = refl

-- ---- certificates

-- what is read over the pair is never wider than the pair
abbrev pub wider : Row Side Move
wider = record { state = tails; lower = 1000000; upper = 10000000; act = GivesUp }

low_of_a_wider_row : low_over coin same_side optimum (wider ∷ []) tails ≡ 2000000
low_of_a_wider_row = refl

high_of_a_wider_row : high_over coin same_side optimum (wider ∷ []) tails ≡ 2000000
high_of_a_wider_row = refl

act_of_a_wider_row : act_over coin same_side optimum (wider ∷ []) tails ≡ Some flip
act_of_a_wider_row = refl

abbrev pub certificate : Certificate Side Move
certificate = record { penalty = 10000000; rows = []; lower = 2000000; upper = 2000000 }
