-- Which states a policy reaches from the starts, and which of two is reached in fewer steps, over any process.
--     followed p policy s      the outcomes of what the policy does in s; none at a goal, nor where it gives up
--     Leads p policy s t       an outcome of positive weight leads from s to t
--     IsReachedIn p policy starts n s
--                              s is reached in n steps: by them it is led to from a start of positive weight
--     IsReached p policy starts s
--                              for some n; that is, the policy reaches s with positive probability
--     IsNoFarther p policy starts s t
--                              s is reached in no more steps than t
-- Source: reachability under a policy, as in stochastic shortest path problems (Bertsekas and Tsitsiklis 1991).
use Rattle.std.specs.Prelude.{◌≡◌, ℕ, suc, zero, ◌<◌, ◌≤◌, cond, List, [], Option, Some, None, Contains}
use Rattle.decision_process.specs.Process.{Process, Outcome, Start}

module _ {S A : Type 0} (p : Process S A) (policy : S → Option A) where
  abbrev pub outcomes_by : Option A → S → List (Outcome S)
  outcomes_by None s = []
  outcomes_by (Some a) s = p.step a s

  abbrev pub followed : S → List (Outcome S)
  followed s = cond (p.goal s) [] (outcomes_by (policy s) s)

  pub record Leads (s t : S) : Type 0 where
    pub outcome : Outcome S
    pub taken : Contains (followed s) outcome
    pub likely : 0 < outcome.weight
    pub there : outcome.next ≡ t

  module _ (starts : List (Start S)) where
    abbrev pub IsReachedIn : ℕ → S → Type 0
    IsReachedIn zero s =
        (start : Start S) × Contains starts start × (0 < start.weight) × (start.state ≡ s)
    IsReachedIn (suc n) s = (r : S) × IsReachedIn n r × Leads r s

    abbrev pub IsReached : S → Type 0
    IsReached s = (n : ℕ) × IsReachedIn n s

    abbrev pub IsNoFarther : S → S → Type 0
    IsNoFarther s t = (n : ℕ) → IsReachedIn n t → (m : ℕ) × (m ≤ n) × IsReachedIn m s
