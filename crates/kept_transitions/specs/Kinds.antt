-- Kept actions, by their kinds.
--     action_of kinds a          the kept action with the kind in its place
--     actions_of kinds as        those that are
--     AreOfKinds kinds as        each of them has a kind
--     HasKind kinds place code cost
--                                the kind in this place has this code and this cost
--     HasMoreKinds kinds more    the same kinds, and maybe others behind them
use Rattle.std.specs.Prelude.{◌≡◌, ℕ, ◌<◌, Some, List, ◌++◌, length, map, get_or}
use Rattle.std.specs.List.{slice_get, All}
use Rattle.kept_transitions.specs.declared.kept_action.KeptAction.{KeptAction}
use Rattle.kept_transitions.specs.declared.kind.Kind.{Kind}
use Rattle.kept_transitions.specs.declared.unpacked_action.UnpackedAction.{UnpackedAction}

abbrev pub no_kind : Kind
no_kind = record { cost = 0; earlier = 0; code = 0 }

abbrev pub of_kind : Kind → ℕ → KeptAction
of_kind kind first = record { cost = kind.cost; first = first; code = kind.code }

abbrev pub action_of : List Kind → UnpackedAction → KeptAction
action_of kinds a = of_kind (get_or kinds a.kind no_kind) a.first

abbrev pub actions_of : List Kind → List UnpackedAction → List KeptAction
actions_of kinds = map (action_of kinds)

abbrev pub AreOfKinds : List Kind → List UnpackedAction → Type 0
AreOfKinds kinds = All (λ (a : UnpackedAction). a.kind < length kinds)

pub record HasKind (kinds : List Kind) (place code cost : ℕ) : Type 0 where
  pub kind : Kind
  pub here : slice_get kinds place ≡ Some kind
  pub code_is : kind.code ≡ code
  pub cost_is : kind.cost ≡ cost

pub record HasMoreKinds (kinds more : List Kind) : Type 0 where
  pub others : List Kind
  pub are : more ≡ kinds ++ others
