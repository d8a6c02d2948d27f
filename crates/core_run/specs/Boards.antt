-- What a board shows, and what is true of its form.
--     core_of g b            the core that the board shows
--     numbers g ids seen side
--                            the numbers of states that entries have
--     AreBounded b           no worker has seen a lower number above the greatest penalty
--     IsFormed g b           beside each row stands its state; rows have the words of a state, and first bounds until they are
--                            published
use Rattle.std.specs.Prelude.{◌≡◌, ℕ, ◌≤◌, false, Some, List, map, length, All}
use Rattle.std.specs.List.{slice_get}
use Rattle.ground_model.specs.declared.limits.TheConstants.{MOST_PENALTY}
use Rattle.bound_core.specs.declared.worker.Worker.{Worker}
use Rattle.ground_model.specs.Ground.{Ground}
use Rattle.bound_core.specs.declared.id_row.IdRow.{IdRow}
use Rattle.fixed_round.specs.Words.{value_of}
use Rattle.ground_model.specs.Packed.{State}
use Rattle.bound_core.specs.declared.worker.Seen.{Seen}
use Rattle.core_run.specs.declared.means.Side.{Side}
use Rattle.core_run.specs.declared.means.Side.TheVariants.{Lower, Upper}
use Rattle.bound_core.specs.Numbers.{quit_word, first_word}
use Rattle.bound_core.specs.Core.{Core, width}
use Rattle.bound_core.specs.Shown.{state_in, shown, seen_lower_in, seen_upper_in}
use Rattle.core_run.specs.declared.board.Board.{Board}

abbrev pub core_of : Ground → Board → Core
core_of g b = shown g (record { ids = b.ids.items; workers = b.workers.items })

pub record IsFormedRow (g : Ground) (row : IdRow) : Type 0 where
  pub whole : length row.words ≡ width g
  pub lower : row.published ≡ false → row.lower ≡ 0
  pub upper : row.published ≡ false → row.upper ≡ quit_word g.penalty

pub record IsFormed (g : Ground) (b : Board) : Type 0 where
  pub states : b.states.items ≡ map state_in b.ids.items
  pub rows : All (IsFormedRow g) b.ids.items

abbrev pub numbers : Ground → List IdRow → List Seen → Side → State → ℕ
numbers g ids seen Lower = seen_lower_in ids seen
numbers g ids seen Upper = λ s. value_of (seen_upper_in ids (first_word g s) seen s)

abbrev pub AreBounded : Board → Type 0
AreBounded b = (k : ℕ) (w : Worker) (s : State) → slice_get b.workers.items k ≡ Some w
    → seen_lower_in b.ids.items w.seen s ≤ MOST_PENALTY
