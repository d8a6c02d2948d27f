-- The core that a core state shows: its rows are read by their states.
--     state_in row              the state of a row: the words that are written, others counting as 0
--     is_published c id         the id has a row that is published
--     lower_in, upper_in        the greatest lower number and the least upper word of the published ids of a state
--     seen_lower_in, seen_upper_in
--                               the same of what a worker has seen
--     sight_in g ids w          the sight of a worker
--     shown g c                 the core
use Rattle.std.specs.Prelude.{ℕ, max, min, Bool, false, cond, nat_eq, ◌&&◌, Option, Some, None}
use Rattle.std.specs.Prelude.{List, [], ◌∷◌, length, map}
use Rattle.std.specs.Option.{unwrap_or}
use Rattle.std.specs.List.{slice_get, list_any}
use Rattle.ground_model.specs.Packed.{State, same_state}
use Rattle.ground_model.specs.Ground.{Ground}
use Rattle.bound_core.specs.declared.id_row.IdRow.{IdRow}
use Rattle.bound_core.specs.declared.worker.Seen.{Seen}
use Rattle.bound_core.specs.declared.worker.Worker.{Worker}
use Rattle.bound_core.specs.declared.core_state.CoreState.{CoreState}
use Rattle.bound_core.specs.Numbers.{first_word}
use Rattle.bound_core.specs.Core.{Sight, Core}

abbrev pub state_in : IdRow → State
state_in row = map (λ (word : Option ℕ). unwrap_or word 0) row.words

abbrev pub published_state : Option IdRow → Option State
published_state None = None
published_state (Some row) = cond row.published (Some (state_in row)) None

abbrev pub is_published_row : Option IdRow → Bool
is_published_row None = false
is_published_row (Some row) = row.published

abbrev pub is_published : CoreState → ℕ → Bool
is_published c id = is_published_row (slice_get c.ids id)

-- the id is published, and has this state
abbrev pub is_of : Option IdRow → State → Bool
is_of None s = false
is_of (Some row) s = row.published && same_state (state_in row) s

abbrev pub lower_in : List IdRow → State → ℕ
lower_in [] s = 0
lower_in (row ∷ rows) s = cond (is_of (Some row) s) (max (lower_in rows s) row.lower) (lower_in rows s)

abbrev pub upper_in : ℕ → List IdRow → State → ℕ
upper_in first [] s = first
upper_in first (row ∷ rows) s =
    cond (is_of (Some row) s) (min (upper_in first rows s) row.upper) (upper_in first rows s)

-- the word at a place of a row, where it is written
abbrev pub word_at : Option IdRow → ℕ → Option ℕ
word_at None place = None
word_at (Some row) place = unwrap_or (slice_get row.words place) None

module _ (ids : List IdRow) where
  abbrev pub seen_lower_in : List Seen → State → ℕ
  seen_lower_in [] s = 0
  seen_lower_in (x ∷ xs) s =
      cond (is_of (slice_get ids x.id) s)
      (max (seen_lower_in xs s) (unwrap_or x.lower 0)) (seen_lower_in xs s)

  abbrev pub seen_upper_in : ℕ → List Seen → State → ℕ
  seen_upper_in first [] s = first
  seen_upper_in first (x ∷ xs) s =
      cond (is_of (slice_get ids x.id) s)
      (min (seen_upper_in first xs s) (unwrap_or x.upper first)) (seen_upper_in first xs s)

  abbrev pub word_in : Option ℕ → ℕ → Option ℕ
  word_in None place = None
  word_in (Some id) place = word_at (slice_get ids id) place

  abbrev pub sight_in : Ground → Worker → Sight
  sight_in g w = record {
    live = w.live;
    knows = λ id. list_any (λ (x : Seen). nat_eq x.id id) w.seen;
    lower = seen_lower_in w.seen;
    upper = λ s. seen_upper_in (first_word g s) w.seen s;
    spare = w.spare;
    draft = word_in w.spare;
  }

abbrev pub shown : Ground → CoreState → Core
shown g c = record {
  given = length c.ids;
  state_of = λ id. published_state (slice_get c.ids id);
  lower = lower_in c.ids;
  upper = λ s. upper_in (first_word g s) c.ids s;
  workers = map (sight_in c.ids g) c.workers;
}
