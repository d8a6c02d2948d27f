-- Partial rows: an upper value and an act for a whole set of states.
-- The outcomes of an action are a list, and a partial row names for each of them the partial row that its next state lies in, or none.
--     PartialRow S A           which states it holds, an upper value for each of them, and what to do there
--     value_of quit name       the upper value of the named row; `quit` where none is named
--     counted quit names outcomes
--                              the sum of weight times the sum of cost and named value
--     Leads rows names outcomes
--                              there is one name for each outcome; the row that is named for an outcome of positive weight is one of
--                              `rows` and holds the next state
--     Covers p rows a upper s  the action is open in s, and the value is at least what is counted there with some names
--     IsSupported p rows row   its states are goals; or it gives up, and its value is at least the penalty; or its value covers its
--                              action at each of its states that is no goal
--     best_row quit rows s     the row of the least upper value among those that hold s; None where no such value is below quit
--     partial_high, partial_act p rows s
--                              0 at a goal, else the least upper value of a row that holds s, and the penalty without one; its act
-- Source: policies over partial states, each of which stands for all states that agree with it (Muise, McIlraith and Beck 2012).
use Rattle.std.specs.Prelude.{◌≡◌, ℕ, ◌+◌, ◌*◌, ◌<◌, ◌≤◌, ltb, Bool, true, false, cond, ◌&&◌, List, [], ◌∷◌, Option, Some, None, Contains}
use Rattle.decision_process.specs.Process.{Process, Outcome}
use Rattle.decision_process.specs.Readings.{RowAct, GivesUp, AtGoal, Takes, action_of}

pub record PartialRow (S A : Type 0) : Type 0 where
  pub holds : S → Bool
  pub upper : ℕ
  pub act : RowAct A

module _ {S A : Type 0} where
  abbrev pub value_of : ℕ → Option (PartialRow S A) → ℕ
  value_of quit None = quit
  value_of quit (Some row) = row.upper

  abbrev pub counted : ℕ → List (Option (PartialRow S A)) → List (Outcome S) → ℕ
  counted quit [] outcomes = 0
  counted quit (name ∷ names) [] = 0
  counted quit (name ∷ names) (o ∷ outcomes) =
      o.weight * (o.cost + value_of quit name) + counted quit names outcomes

  abbrev pub best_row : ℕ → List (PartialRow S A) → S → Option (PartialRow S A)
  best_row quit [] s = None
  best_row quit (row ∷ rows) s =
      elim (row.holds s && ltb row.upper (value_of quit (best_row quit rows s))) [
        | true ↦ Some row
        | false ↦ best_row quit rows s
      ]

module _ {S A : Type 0} (rows : List (PartialRow S A)) where
  abbrev pub LeadsTo : Option (PartialRow S A) → S → Type 0
  LeadsTo None s = Unit {0}
  LeadsTo (Some row) s = Contains rows row × (row.holds s ≡ true)

  abbrev pub Leads : List (Option (PartialRow S A)) → List (Outcome S) → Type 0
  Leads [] [] = Unit {0}
  Leads [] (o ∷ outcomes) = ⊥
  Leads (name ∷ names) [] = ⊥
  Leads (name ∷ names) (o ∷ outcomes) =
      (0 < o.weight → LeadsTo name o.next) × Leads names outcomes

module _ {S A : Type 0} (p : Process S A) (rows : List (PartialRow S A)) where
  pub record Covers (a : A) (upper : ℕ) (s : S) : Type 0 where
    pub is_open : Contains (p.choices s) a
    pub names : List (Option (PartialRow S A))
    pub leads : Leads rows names (p.step a s)
    pub covers : counted p.penalty names (p.step a s) ≤ upper * p.den

  abbrev pub IsSupportedBy : RowAct A → PartialRow S A → Type 0
  IsSupportedBy AtGoal row = (s : S) → row.holds s ≡ true → p.goal s ≡ true
  IsSupportedBy GivesUp row = p.penalty ≤ row.upper
  IsSupportedBy (Takes a) row =
      (s : S) → row.holds s ≡ true → p.goal s ≡ false → Covers a row.upper s

  abbrev pub IsSupported : PartialRow S A → Type 0
  IsSupported row = IsSupportedBy row.act row

  abbrev pub partial_high : S → ℕ
  partial_high s = cond (p.goal s) 0 (value_of p.penalty (best_row p.penalty rows s))

  abbrev pub partial_act : S → Option A
  partial_act s =
      elim (best_row p.penalty rows s) [ None ↦ None | Some row ↦ action_of row.act ]
