-- The interval over the starts when a search has ended.
--     closing_low g rows     the mean of the lower bounds, rounded down
--     closing_high g rows    the mean of the upper bounds, rounded up
use Rattle.std.specs.Prelude.{ℕ, List}
use Rattle.decision_process.specs.Process.{at_starts}
use Rattle.decision_process.specs.Backup.{floor, ceiling}
use Rattle.decision_process.specs.Readings.{low, high}
use Rattle.ground_model.specs.Packed.{same_state}
use Rattle.ground_model.specs.Ground.{Ground}
use Rattle.ground_model.specs.Steps.{ground_process, ground_starts}
use Rattle.bound_core.specs.declared.image.ImageRow.{ImageRow}
use Rattle.bound_core.specs.ends.Closing.{closing_rows}

module _ (g : Ground) (rows : List ImageRow) where
  abbrev pub closing_low : ℕ
  closing_low = floor (at_starts (low same_state (closing_rows rows)) (ground_starts g)) g.start_den

  abbrev pub closing_high : ℕ
  closing_high = ceiling (at_starts (high (ground_process g) same_state (closing_rows rows)) (ground_starts g)) g.start_den
