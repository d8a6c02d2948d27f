-- Room for a walk.
--     IsStateOf g s              s has as many words as the states of g
--     IsBufferOf g b             so have the two states of the buffer
use Rattle.std.specs.Prelude.{◌≡◌, length}
use Rattle.ground_model.specs.Packed.{State, words_for}
use Rattle.ground_model.specs.Ground.{Ground}
use Rattle.policy_walk.specs.declared.buffer.WalkBuffer.{WalkBuffer}

abbrev pub IsStateOf : Ground → State → Type 0
IsStateOf g s = length s ≡ words_for (length g.atoms)

pub record IsBufferOf (g : Ground) (b : WalkBuffer) : Type 0 where
  pub state : IsStateOf g b.state
  pub next : IsStateOf g b.next
