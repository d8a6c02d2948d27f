-- The board on which the starts are published.
--     start_row g s          the row of a state that is published at its first bounds
--     unseen n               entries of the first n ids, of which no number is seen
use Rattle.std.specs.Prelude.{ℕ, true, Some, None, List, map}
use Rattle.std.specs.List.{range_with_len}
use Rattle.ground_model.specs.Packed.{State}
use Rattle.ground_model.specs.Ground.{Ground}
use Rattle.bound_core.specs.declared.id_row.IdRow.{IdRow}
use Rattle.bound_core.specs.declared.worker.Seen.{Seen}
use Rattle.bound_core.specs.Numbers.{first_word}

abbrev pub start_row : Ground → State → IdRow
start_row g s = record {
  words = map (λ (word : ℕ). Some word) s;
  published = true;
  lower = 0;
  upper = first_word g s;
}

abbrev pub unseen : ℕ → List Seen
unseen n = map (λ (id : ℕ). record { id = id; lower = None; upper = None }) (range_with_len 0 n)
