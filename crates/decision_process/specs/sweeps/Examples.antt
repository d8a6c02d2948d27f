-- How many rounds reach the starts, and the first level of the coin of `decision_process`.
use Rattle.std.specs.Prelude.{◌≡◌, [], ◌∷◌, Some, None, refl}
use Rattle.decision_process.specs.Coin.{coin, starts, heads, tails}
use Rattle.decision_process.specs.Levels.{near}
use Rattle.decision_process.specs.sweeps.Sweeps.{rounds_at}

-- the start is tails; behind a flip either side may show, and no step is taken behind heads
the_start : near coin starts 1 ≡ tails ∷ []
the_start = refl

behind_a_flip : near coin starts 2 ≡ tails ∷ heads ∷ tails ∷ []
behind_a_flip = refl

-- where near 1 alone is swept, one round at most reaches the start
one_level : rounds_at (Some 1) 20 1 ≡ 1
one_level = refl

-- where near 3 is swept, three rounds at most reach the start, and one the states at the rim
three_levels : rounds_at (Some 3) 20 1 ≡ 3
three_levels = refl

rim_of_three : rounds_at (Some 3) 20 3 ≡ 1
rim_of_three = refl

-- where all states are swept, each round reaches each of them
all_states : rounds_at None 20 3 ≡ 20
all_states = refl
