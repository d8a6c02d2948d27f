-- Where the transitions of an id stand, for a scratch that shares those of the states near the starts.
--     near_of shared             the shared transitions; nothing is kept where none are shared
--     IsPlace near own id t row  t has the row of the id: it is near where that keeps the id, and else own
use Rattle.std.specs.Prelude.{◌≡◌, ◌⊎◌, ℕ, Option, Some, None}
use Rattle.std.specs.Arc.{arc_value}
use Rattle.std.specs.declared.sync.Arc.{Arc}
use Rattle.kept_transitions.specs.declared.kept_row.KeptRow.{KeptRow}
use Rattle.kept_transitions.specs.Rows.{Transitions, IsKept, new_kept, row_of}

abbrev pub near_of : {Z : Type 0} → Option (Arc Transitions Z) → Transitions
near_of None = new_kept 0
near_of (Some shared) = arc_value shared

pub record IsPlace (near own : Transitions) (id : ℕ) (t : Transitions) (row : KeptRow) : Type 0 where
  pub row_is : row ≡ row_of t id
  pub t_is : (IsKept (row_of near id) × (t ≡ near))
      ⊎ ((IsKept (row_of near id) → ⊥) × (t ≡ own))
