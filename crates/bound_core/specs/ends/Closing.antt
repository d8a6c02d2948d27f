-- What is known of states when a search has ended: the rows that its table hands out, read as rows of a certificate over the problem's
-- process. A state without a row has the bounds of a state of which nothing is known.
--     act_in word                what an upper word says to do
--     closing_row, closing_rows  rows that are handed out, as rows of the process
--     differs g row              the row says more than is known of a state at first
--     IsClosing g rows           no state has two rows; each row's state can be reached; its word is at most the first one; goals are
--                                marked as such; the readings of all states are balanced
--     HasStartsFirst g rows      the starts have the first rows, in their order
--     HasRowOf rows s            s has a row
-- Source: sub- and super-solutions of the Bellman equation (decision_process).
use Rattle.std.specs.Prelude.{◌≡◌, ◌≤◌, ℕ, not, Bool, ◌&&◌, cond, nat_eq, List, map, Contains, Some}
use Rattle.std.specs.List.{slice_get}
use Rattle.fixed_round.specs.Words.{value_of, code_of}
use Rattle.decision_process.specs.Levels.{IsReachable}
use Rattle.decision_process.specs.Readings.{Row, RowAct, GivesUp, AtGoal, Takes, HasDistinctStates, IsMarked, IsBalancedIn}
use Rattle.ground_model.specs.declared.start.Start.{Start}
use Rattle.ground_model.specs.Packed.{State, same_state}
use Rattle.ground_model.specs.Ground.{Ground}
use Rattle.ground_model.specs.Steps.{ground_process, ground_starts}
use Rattle.bound_core.specs.declared.codes.TheConstants.{AT_GOAL, GIVE_UP}
use Rattle.bound_core.specs.declared.image.ImageRow.{ImageRow}
use Rattle.bound_core.specs.Numbers.{first_word}

abbrev pub act_in : ℕ → RowAct ℕ
act_in word = cond (nat_eq (code_of word) AT_GOAL) AtGoal
    (cond (nat_eq (code_of word) GIVE_UP) GivesUp (Takes (code_of word)))

abbrev pub closing_row : ImageRow → Row State ℕ
closing_row row = record {
  state = row.state;
  lower = row.lower;
  upper = value_of row.upper;
  act = act_in row.upper;
}

abbrev pub closing_rows : List ImageRow → List (Row State ℕ)
closing_rows rows = map closing_row rows

abbrev pub differs : Ground → ImageRow → Bool
differs g row = not (nat_eq row.lower 0 && nat_eq row.upper (first_word g row.state))

pub record IsClosing (g : Ground) (rows : List ImageRow) : Type 0 where
  pub distinct : HasDistinctStates (closing_rows rows)
  pub reached : (row : ImageRow) → Contains rows row
      → IsReachable (ground_process g) (ground_starts g) row.state
  pub within_first : (row : ImageRow) → Contains rows row → row.upper ≤ first_word g row.state
  pub marked : (row : ImageRow) → Contains rows row → IsMarked (ground_process g) (closing_row row)
  pub balanced : (s : State) → IsBalancedIn (ground_process g) same_state (closing_rows rows) s

pub record HasRowOf (rows : List ImageRow) (s : State) : Type 0 where
  pub row : ImageRow
  pub held : Contains rows row
  pub of_state : row.state ≡ s

pub record IsRowAt (rows : List ImageRow) (k : ℕ) (s : State) : Type 0 where
  pub row : ImageRow
  pub here : slice_get rows k ≡ Some row
  pub of_state : row.state ≡ s

abbrev pub HasStartsFirst : Ground → List ImageRow → Type 0
HasStartsFirst g rows = (k : ℕ) (x : Start) → slice_get g.starts k ≡ Some x → IsRowAt rows k x.state
