-- What kept transitions mean, where a relation says which id each state has.
--     cost_of_all s cs           the sum over the choices of weight times cost in the state s
--     IsKeptAction R s own ids a k
--                                k has that sum, and from its first place on the ids of the states to which those choices of a lead
--                                from s that are not idle, in their order; one that is idle leads to the state of the own id
--     IsKeptAt R s own g ids code k
--                                k is so the action of this code
--     AreKept R s own g t row    the row has open actions of s that are enough, in the order of their codes
--     IsKeptState R g id t row   so it has those of the state of the id, which is no goal
--     AreKeptStates R g t        so it is with each id of which actions are kept
--     HasGrown t u               u is t with more actions and ids behind the others
use Rattle.std.specs.Prelude.{◌≡◌, ℕ, ◌+◌, ◌*◌, ◌<◌, false, cond, Option, Some, List, ◌++◌, length, take, get_or}
use Rattle.std.specs.List.{slice_get}
use Rattle.plain_list.specs.weighted.Mean.{total}
use Rattle.ground_model.specs.declared.action.Choice.{Choice}
use Rattle.ground_model.specs.declared.action.GroundAction.{GroundAction}
use Rattle.ground_model.specs.Packed.{State, has_bit}
use Rattle.ground_model.specs.Choices.{cost_of, next_state}
use Rattle.ground_model.specs.Ground.{Ground}
use Rattle.ground_model.specs.Steps.{ground_process}
use Rattle.applicable_actions.specs.distinct.Enough.{AreEnough}
use Rattle.kept_transitions.specs.declared.kept_action.KeptAction.{KeptAction}
use Rattle.kept_transitions.specs.declared.kept_row.KeptRow.{KeptRow}
use Rattle.kept_transitions.specs.Idle.{is_idle, moving}
use Rattle.kept_transitions.specs.Rows.{Transitions, IsKept, row_of}

abbrev pub cost_of_all : State → List Choice → ℕ
cost_of_all s = total (λ (c : Choice). c.weight * cost_of (has_bit s) c)

-- the id that is kept of a choice from the state of the id `own`, where those of choices that are not idle stand in places
abbrev pub kept_id : ℕ → List ℕ → ℕ → Choice → Option ℕ
kept_id own ids place c = cond (is_idle c) (Some own) (slice_get ids place)

module _ (R : State → ℕ → Type 0) where
  module _ (s : State) (own : ℕ) where
    -- the id that is kept of the choice is that of the state to which it leads
    abbrev pub LeadsTo : List ℕ → ℕ → Choice → Type 0
    LeadsTo ids place c = (id : ℕ) × (kept_id own ids place c ≡ Some id) × R (next_state s c) id

    pub record IsKeptAction (ids : List ℕ) (a : GroundAction) (k : KeptAction) : Type 0 where
      pub cost : k.cost ≡ cost_of_all s a.choices
      pub next : (i : ℕ) (c : Choice) → slice_get a.choices i ≡ Some c
          → LeadsTo ids (k.first + moving (take i a.choices)) c

    module _ (g : Ground) where
      pub record IsKeptAt (ids : List ℕ) (code : ℕ) (k : KeptAction) : Type 0 where
        pub code_is : k.code ≡ code
        pub action : GroundAction
        pub here : slice_get g.actions code ≡ Some action
        pub kept : IsKeptAction ids action k

      pub record AreKept (t : Transitions) (row : KeptRow) : Type 0 where
        pub codes : List ℕ
        pub enough : AreEnough g s codes
        pub count : row.past ≡ row.first + length codes
        pub each : (i : ℕ) → i < length codes → (k : KeptAction)
            × (slice_get t.actions (row.first + i) ≡ Some k)
            × IsKeptAt t.ids (get_or codes i 0) k

  pub record IsKeptState (g : Ground) (id : ℕ) (t : Transitions) (row : KeptRow) : Type 0 where
    pub state : State
    pub is : R state id
    pub off_goal : (ground_process g).goal state ≡ false
    pub actions : AreKept state id g t row

  abbrev pub AreKeptStates : Ground → Transitions → Type 0
  AreKeptStates g t = (id : ℕ) → IsKept (row_of t id) → IsKeptState g id t (row_of t id)

pub record HasGrown (t u : Transitions) : Type 0 where
  pub rows : u.rows ≡ t.rows
  pub more_actions : List KeptAction
  pub actions : u.actions ≡ t.actions ++ more_actions
  pub more_ids : List ℕ
  pub ids : u.ids ≡ t.ids ++ more_ids
