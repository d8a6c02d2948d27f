-- What contracts see of a scratch.
--     ScratchView                the problem that it was made for, the last answer with its choices as they were read, and the witness:
--                                a pass that has noted all that the kept transitions rest on, if any are kept
--     new_scratch g              a scratch with which nothing was backed up yet
--     with_witness x k           a scratch with this witness
--     IsScratchOf b x            a scratch for these words: of their problem, with a witness on their table
--     AreBuffers g codes state next
--                                there is room for the codes of all actions, and both states have the problem's length
use Rattle.std.specs.Prelude.{◌≡◌, ◌≤◌, Option, Some, None, length}
use Rattle.ground_model.specs.Packed.{State}
use Rattle.ground_model.specs.Ground.{Ground}
use Rattle.bound_core.specs.Core.{width}
use Rattle.applicable_actions.specs.Codes.{Codes}
use Rattle.word_table.specs.Seen.{Board, Knowledge, IsOf}
use Rattle.brtdp_trial.specs.declared.step.TheConstants.{GIVE_UP}
use Rattle.brtdp_trial.specs.Meaning.{Last}
use Rattle.brtdp_trial.specs.Listed.{no_action}

pub record ScratchView : Type 0 where
  pub problem : Ground
  pub last : Last
  pub witness : Option Knowledge

abbrev pub new_scratch : Ground → ScratchView
new_scratch g = record { problem = g; last = no_action GIVE_UP; witness = None }

abbrev pub with_witness : ScratchView → Knowledge → ScratchView
with_witness x k = record x { witness = Some k }

pub record IsScratchOf (b : Board) (x : ScratchView) : Type 0 where
  pub problem : x.problem ≡ b.problem
  pub witness : (k : Knowledge) → x.witness ≡ Some k → IsOf b k

pub record AreBuffers (g : Ground) (codes : Codes) (state next : State) : Type 0 where
  pub codes_fit : length g.actions ≤ codes.room
  pub state_fits : length state ≡ width g
  pub next_fits : length next ≡ width g
