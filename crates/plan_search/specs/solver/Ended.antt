-- What a table hands out when the search ends.
--     HasFirstRows rows states   the states have the first rows, in their order
--     IsEnded b v image          for the words b and a pass with the view v: what is known of all states, no wider than the pass had
--                                seen; states that the pass had with their places as ids have the first rows; no more ids are
--                                given out than the table has, and all but the rights' number of them have a row
use Rattle.std.specs.Prelude.{◌≡◌, ℕ, ◌+◌, ◌≤◌, Some, List, length}
use Rattle.std.specs.List.{slice_get}
use Rattle.decision_process.specs.Readings.{low, high}
use Rattle.ground_model.specs.Packed.{State, same_state}
use Rattle.ground_model.specs.Steps.{ground_process}
use Rattle.bound_core.specs.declared.image.Image.{Image}
use Rattle.bound_core.specs.declared.image.ImageRow.{ImageRow}
use Rattle.word_table.specs.declared.view.View.{View}
use Rattle.word_table.specs.view.Views.{seen_lower}
use Rattle.word_table.specs.Seen.{Board}
use Rattle.bellman_backup.specs.means.Means.{seen_value}
use Rattle.trial_workers.specs.Workers.{HasListed}
use Rattle.bound_core.specs.ends.Closing.{IsClosing, IsRowAt, closing_rows}

abbrev pub HasFirstRows : List ImageRow → List State → Type 0
HasFirstRows rows states = (k : ℕ) (s : State) → slice_get states k ≡ Some s → IsRowAt rows k s

pub record IsEnded (b : Board) (v : View) (image : Image) : Type 0 where
  pub closing : IsClosing b.problem image.rows
  pub lower : (s : State) → seen_lower v s ≤ low same_state (closing_rows image.rows) s
  pub upper : (s : State)
      → high (ground_process b.problem) same_state (closing_rows image.rows) s ≤ seen_value v s
  pub first : (states : List State) → HasListed states v → HasFirstRows image.rows states
  pub few : length image.rows ≤ image.given_out
  pub given : image.given_out ≤ b.layout.ids
  pub spares : image.given_out ≤ length image.rows + b.most
