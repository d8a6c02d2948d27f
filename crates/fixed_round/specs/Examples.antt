-- Worked examples, which compute.
use Rattle.std.specs.Prelude.{◌≡◌, ◌/◌, [], ◌∷◌, refl}
use Rattle.std.specs.Int.{div_ceil}
use Rattle.fixed_round.specs.Means.{weighted}
use Rattle.fixed_round.specs.Words.{word_of}

-- a coin: half of cost 3 and value 4, half of cost 3 and value 5
weighted-example : weighted (1 ∷ 1 ∷ []) (3 ∷ 3 ∷ []) (4 ∷ 5 ∷ []) ≡ 15
weighted-example = refl

down-example : weighted (1 ∷ 1 ∷ []) (3 ∷ 3 ∷ []) (4 ∷ 5 ∷ []) / 2 ≡ 7
down-example = refl

up-example : div_ceil (weighted (1 ∷ 1 ∷ []) (3 ∷ 3 ∷ []) (4 ∷ 5 ∷ [])) 2 ≡ 8
up-example = refl

word-example : word_of 4000000 65535 ≡ 262144065535
word-example = refl
