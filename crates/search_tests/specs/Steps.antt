-- What tests know of passes and steps.
--     CanWalk b k                a pass over these words that may claim an id
--     CanStep g s k              s is no goal, and the action k is open there and has a choice
--     IsPrepared b k s           the pass holds a spare, has written the state under it, and may publish it
use Rattle.std.specs.Prelude.{◌≡◌, ℕ, ◌<◌, true, false, IsSome, length}
use Rattle.ground_model.specs.Packed.{State}
use Rattle.ground_model.specs.Ground.{Ground}
use Rattle.ground_model.specs.Steps.{is_open, ground_process}
use Rattle.ground_step.specs.Steps.{choices_of}
use Rattle.word_table.specs.view.Views.{IsWritten, IsReached}
use Rattle.word_table.specs.Seen.{Board, Knowledge, IsOf}

pub record CanWalk (b : Board) (k : Knowledge) : Type 0 where
  pub here : IsOf b k
  pub right : 0 < k.view.rights

pub record CanStep (g : Ground) (s : State) (k : ℕ) : Type 0 where
  pub off_goal : (ground_process g).goal s ≡ false
  pub opens : is_open g k s ≡ true
  pub there : 0 < length (choices_of g k)

pub record IsPrepared (b : Board) (k : Knowledge) (s : State) : Type 0 where
  pub here : IsOf b k
  pub right : 0 < k.view.rights
  pub spare : IsSome k.view.spare
  pub written : IsWritten k.view s
  pub reached : IsReached k.view s
