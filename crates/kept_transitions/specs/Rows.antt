-- Kept transitions, as lists.
--     Transitions                the rows of ids, the actions, and the ids that follow
--     IsKept row                 open actions of an id are kept: they stand from the first place up to below the past one
--     new_kept n                 nothing is kept yet, of n ids
--     row_of t id                the row of an id
--     with_row t id row          t with another row of the id, if it has one
--     AddsId t id done u         u is t with the id behind the others, if it was put there
--     AddsAction t action done u the same of an action
--     IsRoom n most              so many stand where at most so many may, and their places have 32 bits
use Rattle.std.specs.Prelude.{◌≡◌, ℕ, ◌<◌, ◌≤◌, ◌^◌, Bool, cond, List, [], ◌∷◌, ◌++◌}
use Rattle.std.specs.Prelude.{get_or, slice_set, replicate}
use Rattle.kept_transitions.specs.declared.kept_action.KeptAction.{KeptAction}
use Rattle.kept_transitions.specs.declared.kept_row.KeptRow.{KeptRow}

pub record Transitions : Type 0 where
  pub rows : List KeptRow
  pub actions : List KeptAction
  pub ids : List ℕ

abbrev pub IsKept : KeptRow → Type 0
IsKept row = row.first ≤ row.past

abbrev pub untried : KeptRow
untried = record { first = 1; past = 0 }

abbrev pub never : KeptRow
never = record { first = 2; past = 0 }

abbrev pub new_kept : ℕ → Transitions
new_kept n = record { rows = replicate n untried; actions = []; ids = [] }

abbrev pub row_of : Transitions → ℕ → KeptRow
row_of t id = get_or t.rows id never

abbrev pub with_row : Transitions → ℕ → KeptRow → Transitions
with_row t id row = record t { rows = slice_set t.rows id row }

abbrev pub AddsId : Transitions → ℕ → Bool → Transitions → Type 0
AddsId t id done u = u ≡ cond done (record t { ids = t.ids ++ id ∷ [] }) t

abbrev pub AddsAction : Transitions → KeptAction → Bool → Transitions → Type 0
AddsAction t action done u = u ≡ cond done (record t { actions = t.actions ++ action ∷ [] }) t

pub record IsRoom (n most : ℕ) : Type 0 where
  pub within : n ≤ most
  pub fits : most < 2 ^ 32
