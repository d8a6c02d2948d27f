-- Codes of open actions that stand for all of them. Two actions that differ in their names alone have the same successors, weights
-- and costs in each state, so one of them is enough.
--     DoTheSame a b              the actions differ at most in their names
--     AreLike actions j k        the actions with the codes j and k do the same
--     RepeatsLast actions k      the action with the code k does the same as the one with the code before
--     HasOneLike g codes k       one of the codes, not above k, is that of an action that does what the one with the code k does
--     AreEnough g s codes        codes of actions that are open in s, in rising order; for each open action they have one like it
use Rattle.std.specs.Prelude.{◌≡◌, ℕ, suc, ◌<◌, ◌≤◌, Some, List, AllPairs, Contains}
use Rattle.std.specs.List.{slice_get}
use Rattle.ground_model.specs.declared.action.GroundAction.{GroundAction}
use Rattle.ground_model.specs.Packed.{State}
use Rattle.ground_model.specs.Ground.{Ground}
use Rattle.ground_model.specs.Steps.{ground_process}

pub record DoTheSame (a b : GroundAction) : Type 0 where
  pub condition : a.condition ≡ b.condition
  pub choices : a.choices ≡ b.choices
  pub den : a.den ≡ b.den

pub record AreLike (actions : List GroundAction) (j k : ℕ) : Type 0 where
  pub one : GroundAction
  pub other : GroundAction
  pub one_here : slice_get actions j ≡ Some one
  pub other_here : slice_get actions k ≡ Some other
  pub same : DoTheSame one other

pub record RepeatsLast (actions : List GroundAction) (k : ℕ) : Type 0 where
  pub last : ℕ
  pub before : k ≡ suc last
  pub like : AreLike actions last k

pub record HasOneLike (g : Ground) (codes : List ℕ) (k : ℕ) : Type 0 where
  pub code : ℕ
  pub listed : Contains codes code
  pub not_above : code ≤ k
  pub like : AreLike g.actions code k

pub record AreEnough (g : Ground) (s : State) (codes : List ℕ) : Type 0 where
  pub rising : AllPairs (λ (j k : ℕ). j < k) codes
  pub are_open : (k : ℕ) → Contains codes k → Contains ((ground_process g).choices s) k
  pub each : (k : ℕ) → Contains ((ground_process g).choices s) k → HasOneLike g codes k
