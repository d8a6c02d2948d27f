-- Partial rows of a ground problem, and their test.
--     PartialState           the atoms that are true in it and those that are false; the others are open
--     known_at t q           what it says of atom q
--     lies_in n s t          s is a state of n atoms in which t is true
--     Entails known t        all that t says is known
--     GroundRow              a partial state with an upper value, and what to do in its states
--     partial_row n row      the same over the states of n atoms
--     rows_of g rows         partial rows of the ground problem's process
--     Successor              what a row says of one choice: which guarded parts hold, and the row of the next states, if any
--     own_counted quit successors choices
--                            the sum of weight times cost and upper value of the successor's row
--     AreSuccessors rows known successors choices
--                            there is one for each choice: its guarded parts are decided, and what is known after it entails the partial
--                            state of the successor's row
--     IsTaken g rows k row   action k is known to be open, and the value is at least what is counted with some successors
--     IsGroundRow g rows row the test of a row: the goal is known to hold; or the value is at least the penalty; or its action is taken
-- Source: policies over partial states (Muise, McIlraith and Beck 2012).
use Rattle.std.specs.Prelude.{◌≡◌, ℕ, ◌+◌, ◌*◌, ◌≤◌, Bool, true, false, cond, not, ◌&&◌, All, List, [], ◌∷◌, map, length, Option, Some, None, Contains}
use Rattle.std.specs.List.{slice_get, list_all}
use Rattle.decision_process.specs.Readings.{RowAct, GivesUp, AtGoal, Takes}
use Rattle.balanced_pair.specs.partial_rows.PartialRows.{PartialRow}
use Rattle.ground_model.specs.declared.action.Choice.{Choice}
use Rattle.ground_model.specs.declared.action.GroundAction.{GroundAction}
use Rattle.ground_model.specs.Packed.{State, has_bit, is_inside}
use Rattle.ground_model.specs.Choices.{is_member}
use Rattle.ground_model.specs.Ground.{Ground}
use Rattle.partial_states.specs.Known.{kleene}
use Rattle.partial_states.specs.Steps.{picked_cost, step_known, Decides}

pub record PartialState : Type 0 where
  pub trues : List ℕ
  pub falses : List ℕ

abbrev pub known_at : PartialState → ℕ → Option Bool
known_at t q =
    cond (is_member t.trues q) (Some true) (cond (is_member t.falses q) (Some false) None)

abbrev pub lies_in : ℕ → State → PartialState → Bool
lies_in n s t =
    is_inside n s
    && (list_all (has_bit s) t.trues && list_all (λ q. not (has_bit s q)) t.falses)

pub record Entails (known : ℕ → Option Bool) (t : PartialState) : Type 0 where
  pub trues : All (λ q. known q ≡ Some true) t.trues
  pub falses : All (λ q. known q ≡ Some false) t.falses

pub record GroundRow : Type 0 where
  pub state : PartialState
  pub upper : ℕ
  pub act : RowAct ℕ

abbrev pub partial_row : ℕ → GroundRow → PartialRow State ℕ
partial_row n row =
    record { holds = λ s. lies_in n s row.state; upper = row.upper; act = row.act }

abbrev pub rows_of : Ground → List GroundRow → List (PartialRow State ℕ)
rows_of g rows = map (partial_row (length g.atoms)) rows

pub record Successor : Type 0 where
  pub picked : List Bool
  pub row : Option GroundRow

abbrev pub upper_of : ℕ → Option GroundRow → ℕ
upper_of quit None = quit
upper_of quit (Some row) = row.upper

abbrev pub own_counted : ℕ → List Successor → List Choice → ℕ
own_counted quit [] choices = 0
own_counted quit (x ∷ successors) [] = 0
own_counted quit (x ∷ successors) (c ∷ choices) =
    c.weight * (c.cost + picked_cost x.picked c.guarded + upper_of quit x.row)
    + own_counted quit successors choices

module _ (rows : List GroundRow) where
  abbrev pub LeadsInto : (ℕ → Option Bool) → Option GroundRow → Type 0
  LeadsInto known None = Unit {0}
  LeadsInto known (Some row) = Contains rows row × Entails known row.state

  abbrev pub AreSuccessors : (ℕ → Option Bool) → List Successor → List Choice → Type 0
  AreSuccessors known [] [] = Unit {0}
  AreSuccessors known [] (c ∷ choices) = ⊥
  AreSuccessors known (x ∷ successors) [] = ⊥
  AreSuccessors known (x ∷ successors) (c ∷ choices) =
      Decides known c.guarded x.picked × LeadsInto (step_known known c x.picked) x.row
      × AreSuccessors known successors choices

module _ (g : Ground) (rows : List GroundRow) where
  pub record IsTaken (k : ℕ) (row : GroundRow) : Type 0 where
    pub action : GroundAction
    pub has_code : slice_get g.actions k ≡ Some action
    pub opens : kleene (known_at row.state) action.condition ≡ Some true
    pub successors : List Successor
    pub follow : AreSuccessors rows (known_at row.state) successors action.choices
    pub covers : own_counted g.penalty successors action.choices ≤ row.upper * action.den

  abbrev pub IsGroundRowBy : RowAct ℕ → GroundRow → Type 0
  IsGroundRowBy AtGoal row = kleene (known_at row.state) g.goal ≡ Some true
  IsGroundRowBy GivesUp row = g.penalty ≤ row.upper
  IsGroundRowBy (Takes k) row = IsTaken k row

  abbrev pub IsGroundRow : GroundRow → Type 0
  IsGroundRow row = IsGroundRowBy row.act row
