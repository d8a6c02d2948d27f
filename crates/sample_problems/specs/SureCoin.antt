-- A coin that shows heads at the start in three cases of ten, and surely once it is turned.
use Rattle.std.specs.Prelude.{codes, [], ◌∷◌}
use Rattle.ground_model.specs.declared.action.GroundAction.{GroundAction}
use Rattle.ground_model.specs.declared.condition.GroundCondition.TheVariants.{True, Atom}
use Rattle.ground_model.specs.Coin.{heads, tails, shows_heads}
use Rattle.ground_model.specs.Ground.{Ground}

abbrev pub turn : GroundAction
turn = record { name = codes "(flip)"; condition = True; choices = shows_heads ∷ []; den = 1 }

abbrev pub sure_coin : Ground
sure_coin = record {
  atoms = codes "(heads)" ∷ [];
  penalty = 10000000;
  starts = record { weight = 3; state = heads } ∷ record { weight = 7; state = tails } ∷ [];
  start_den = 10;
  goal = Atom 0;
  actions = turn ∷ [];
}
