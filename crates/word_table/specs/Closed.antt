-- What is handed out when a table is closed.
--     is_held ws n id            the id stands in one of the first n buckets
--     row_in g l ws id           the state and the numbers of an id: its upper word is the smaller of the word and the first word of
--                                the state
--     ids_in l ws n              the ids below n that stand in buckets, in rising order
--     rows_in g l ws n           their rows
--     image_in g l ws            all rows, and how many ids are given out
--     AreClosed l ws             no more ids are given out, nor stand in buckets, than there are
--     AreMarked l ws n marks     for each id, whether it stands in one of the first n buckets
--     IsWide l row               the row has a state of as many words as the layout says
--     IsRoom l room              such a row for each id, and marks that say of no id that it is published
--     IsRow c id row             the row shows the id's state and its numbers in the core
--     AreRows c ids rows         the rows show the published ids, in rising order
--     IsImage b v image          the image shows a sound core of a problem within its limits, in which each id that the pass has a state
--                                with is published with that state, no number is wider than the pass had seen, and states without an id
--                                are at their first numbers; no more ids are given out than the table has, and all but the rights' number
--                                of them are published
use Rattle.std.specs.Prelude.{◌≡◌, ◌≢◌, ℕ, zero, suc, ◌+◌, ◌<◌, ◌≤◌, min, Bool, false, ◌||◌, nat_eq, IsTrue, Some}
use Rattle.std.specs.Prelude.{List, length, map, filter, get_or, All, Contains, AllPairs}
use Rattle.std.specs.List.{slice_get, range_with_len}
use Rattle.ground_model.specs.Packed.{State}
use Rattle.ground_model.specs.Ground.{Ground}
use Rattle.ground_model.specs.Invariant.{IsGroundProblem}
use Rattle.bound_core.specs.declared.image.Image.{Image}
use Rattle.bound_core.specs.declared.image.ImageRow.{ImageRow}
use Rattle.bound_core.specs.Numbers.{first_word}
use Rattle.bound_core.specs.Core.{Core, IsPublished}
use Rattle.bound_core.specs.Sound.{Sound}
use Rattle.word_table.specs.declared.layout.Layout.{Layout}
use Rattle.word_table.specs.declared.view.View.{View}
use Rattle.word_table.specs.view.Views.{knows, has_state, seen_lower, seen_upper}
use Rattle.word_table.specs.rule.Words.{given_in, held_in, state_in, lower_in, upper_in}
use Rattle.word_table.specs.declared.room.Room.{Room}
use Rattle.word_table.specs.Seen.{Board}

-- ---- by the words

abbrev pub is_held : List ℕ → ℕ → ℕ → Bool
is_held ws zero id = false
is_held ws (suc n) id = nat_eq (held_in ws n) (id + 1) || is_held ws n id

abbrev pub row_in : Ground → Layout → List ℕ → ℕ → ImageRow
row_in g l ws id = record {
  state = state_in l ws id;
  lower = lower_in l ws id;
  upper = min (first_word g (state_in l ws id)) (upper_in l ws id);
}

abbrev pub ids_in : Layout → List ℕ → ℕ → List ℕ
ids_in l ws n = filter (λ id. is_held ws l.buckets id) (range_with_len 0 n)

abbrev pub rows_in : Ground → Layout → List ℕ → ℕ → List ImageRow
rows_in g l ws n = map (row_in g l ws) (ids_in l ws n)

abbrev pub image_in : Ground → Layout → List ℕ → Image
image_in g l ws = record { rows = rows_in g l ws l.ids; given_out = given_in ws }

pub record AreClosed (l : Layout) (ws : List ℕ) : Type 0 where
  pub given : given_in ws ≤ l.ids
  pub held : (bucket : ℕ) → bucket < l.buckets → held_in ws bucket ≤ l.ids

pub record AreMarked (l : Layout) (ws : List ℕ) (n : ℕ) (marks : List Bool) : Type 0 where
  pub long : length marks ≡ l.ids
  pub each : (id : ℕ) → id < l.ids → get_or marks id false ≡ is_held ws n id

abbrev pub IsWide : Layout → ImageRow → Type 0
IsWide l row = length row.state ≡ l.width

pub record IsRoom (l : Layout) (room : Room) : Type 0 where
  pub count : length room.rows.items ≡ l.ids
  pub wide : All (IsWide l) room.rows.items
  pub marks : (ws : List ℕ) → AreMarked l ws 0 room.published.items

-- ---- by the core

pub record IsRow (c : Core) (id : ℕ) (row : ImageRow) : Type 0 where
  pub state : c.state_of id ≡ Some row.state
  pub lower : row.lower ≡ c.lower row.state
  pub upper : row.upper ≡ c.upper row.state

pub record AreRows (c : Core) (ids : List ℕ) (rows : List ImageRow) : Type 0 where
  pub count : length ids ≡ length rows
  pub rise : AllPairs (λ i j. i < j) ids
  pub all : (id : ℕ) → IsPublished c id → Contains ids id
  pub each : (k id : ℕ) (row : ImageRow) → slice_get ids k ≡ Some id
      → slice_get rows k ≡ Some row → IsRow c id row

pub record IsImage (b : Board) (v : View) (image : Image) : Type 0 where
  pub problem : IsGroundProblem b.problem
  pub core : Core
  pub ids : List ℕ
  pub sound : Sound b.problem core
  pub rows : AreRows core ids image.rows
  pub others : (s : State) → ((id : ℕ) → core.state_of id ≢ Some s)
      → (core.lower s ≡ 0) × (core.upper s ≡ first_word b.problem s)
  pub given : image.given_out ≡ core.given
  pub within : (core.given ≤ b.layout.ids) × (v.count ≤ core.given)
  pub few : length image.rows ≤ core.given
  pub published : core.given ≤ length image.rows + b.most
  pub known : (id : ℕ) (s : State) → knows v id → IsTrue (has_state v id s)
      → core.state_of id ≡ Some s
  pub lower : (s : State) → seen_lower v s ≤ core.lower s
  pub upper : (s : State) → core.upper s ≤ seen_upper v s
