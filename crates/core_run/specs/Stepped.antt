-- What one event does to a board.
--     raised_row, sunk_row, written_row, published_row, empty_row
--                                  a row after a raise, a sink, a write, a publication, and a new one
--     with_spare w s               a worker with another spare
--     Teaches b k ys b'            worker k learns what the entries say; nothing else changes
--     MayStep g b e                the board shows a sound core and is formed, and the event is allowed
--     IsStep g b e b'              the board after an allowed event shows the core after it, and is formed
use Rattle.std.specs.Prelude.{◌≡◌, ℕ, max, min, true, false, Option, Some, None, List, slice_set, replicate}
use Rattle.std.specs.List.{slice_get}
use Rattle.ground_model.specs.Ground.{Ground}
use Rattle.bound_core.specs.declared.event.Event.{Event}
use Rattle.bound_core.specs.declared.id_row.IdRow.{IdRow}
use Rattle.bound_core.specs.declared.worker.Seen.{Seen}
use Rattle.bound_core.specs.declared.worker.Worker.{Worker}
use Rattle.bound_core.specs.Numbers.{quit_word}
use Rattle.bound_core.specs.Core.{width}
use Rattle.bound_core.specs.Events.{Allowed, after}
use Rattle.bound_core.specs.Sound.{Sound}
use Rattle.core_run.specs.declared.board.Board.{Board}
use Rattle.core_run.specs.Merged.{HasLearned}
use Rattle.core_run.specs.Boards.{core_of, IsFormed}

abbrev pub raised_row : IdRow → ℕ → IdRow
raised_row row value = record row { lower = max row.lower value }

abbrev pub sunk_row : IdRow → ℕ → IdRow
sunk_row row word = record row { upper = min row.upper word }

abbrev pub written_row : IdRow → ℕ → ℕ → IdRow
written_row row place word = record row { words = slice_set row.words place (Some word) }

abbrev pub published_row : IdRow → ℕ → IdRow
published_row row first = record row { published = true; upper = first }

abbrev pub empty_row : Ground → IdRow
empty_row g = record {
  words = replicate (width g) None;
  published = false;
  lower = 0;
  upper = quit_word g.penalty;
}

abbrev pub with_spare : Worker → Option ℕ → Worker
with_spare w spare = record w { spare = spare }

pub record Teaches (b : Board) (k : ℕ) (ys : List Seen) (b' : Board) : Type 0 where
  pub ids : b'.ids.items ≡ b.ids.items
  pub states : b'.states.items ≡ b.states.items
  pub workers : (w w' : Worker) × (slice_get b.workers.items k ≡ Some w) × HasLearned w ys w'
      × (b'.workers.items ≡ slice_set b.workers.items k w')

pub record MayStep (g : Ground) (b : Board) (e : Event) : Type 0 where
  pub sound : Sound g (core_of g b)
  pub formed : IsFormed g b
  pub allowed : Allowed g (core_of g b) e

pub record IsStep (g : Ground) (b : Board) (e : Event) (b' : Board) : Type 0 where
  pub core : core_of g b' ≡ after g (core_of g b) e
  pub formed : IsFormed g b'
