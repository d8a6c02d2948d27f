-- Sums over starts of their bounds when a search has ended.
--     over f xs               the sum of weight times f over these starts
--     AreSums g rows xs sums  the sums of the lower and of the upper bounds over these starts, at most the penalty each
use Rattle.std.specs.Prelude.{◌≡◌, ℕ, ◌*◌, ◌≤◌, List}
use Rattle.plain_list.specs.weighted.Mean.{total}
use Rattle.decision_process.specs.Readings.{low, high}
use Rattle.ground_model.specs.declared.start.Start.{Start}
use Rattle.ground_model.specs.Packed.{State, same_state}
use Rattle.ground_model.specs.Ground.{Ground}
use Rattle.ground_model.specs.Steps.{ground_process}
use Rattle.bound_core.specs.declared.image.ImageRow.{ImageRow}
use Rattle.bound_core.specs.declared.ends.sums.Sums.{Sums}
use Rattle.bound_core.specs.ends.Closing.{closing_rows}

abbrev pub over : (State → ℕ) → List Start → ℕ
over f xs = total (λ (x : Start). x.weight * f x.state) xs

pub record AreSums (g : Ground) (rows : List ImageRow) (xs : List Start) (sums : Sums) : Type 0 where
  pub lower : sums.lower ≡ over (low same_state (closing_rows rows)) xs
  pub upper : sums.upper ≡ over (high (ground_process g) same_state (closing_rows rows)) xs
  pub within_quit : (sums.lower ≤ total (λ (x : Start). x.weight) xs * g.penalty)
      × (sums.upper ≤ total (λ (x : Start). x.weight) xs * g.penalty)
