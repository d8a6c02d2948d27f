-- Two listed states, for tests: the first is the start, and its one action leads to the second, which has no id. Giving up
-- costs 8.
use Rattle.std.specs.Prelude.{◌≡◌, ℕ, ◌≤◌, ◌^◌, true, false, None, List, [], ◌∷◌, refl}
use Rattle.brtdp_trial.specs.Listed.{Listing, after, backed, first_place, listing_of, mean, no_action}
use Rattle.brtdp_trial.specs.declared.backing.Side.TheVariants.{Lower, Upper}
use Rattle.brtdp_trial.specs.declared.listed.Interval.{Interval}
use Rattle.brtdp_trial.specs.declared.listed.Outcome.{Outcome}
use Rattle.brtdp_trial.specs.declared.listed.ListedAction.{ListedAction}
use Rattle.brtdp_trial.specs.declared.listed.ListedStart.{ListedStart}
use Rattle.brtdp_trial.specs.declared.listed.ListedState.{ListedState}
use Rattle.brtdp_trial.specs.declared.step.TheConstants.{GIVE_UP}

abbrev pub way : ℕ → Outcome
way cost = record { weight = 1; cost = cost; next = 1 }

abbrev pub action : ℕ → ListedAction
action cost = record { outcomes = way cost ∷ []; den = 1 }

abbrev pub first : ℕ → ListedState
first cost = record { placed = true; goal = false; actions = action cost ∷ [] }

-- a state whose one action leads to a state at a cost of 1
abbrev pub leads_to : ℕ → ListedState
leads_to next = record {
  placed = true;
  goal = false;
  actions = record { outcomes = record { weight = 1; cost = 1; next = next } ∷ []; den = 1 } ∷ [];
}

abbrev pub second : ListedState
second = record { placed = false; goal = false; actions = [] }

abbrev pub starts : List ListedStart
starts = record { weight = 1; state = 0 } ∷ []

abbrev pub below : ℕ → Interval
below upper = record { lower = 0; upper = upper }

abbrev pub two_states : ℕ → ℕ → ℕ → Listing
two_states cost upper next =
    listing_of 8 starts (first cost ∷ second ∷ []) (below upper ∷ below next ∷ []) (no_action GIVE_UP)

abbrev pub AreInRange : ℕ → ℕ → ℕ → Type 0
AreInRange cost upper next = (cost ≤ 10 ^ 14) × (upper ≤ 10 ^ 14) × (next ≤ 10 ^ 14)

-- ---- worked

-- a cost of 1 and then 0 to 8: the lower number is raised to 1, and the choice has the numbers before
open-answers : backed (two_states 1 8 8) 0
    ≡ record { code = 0; den = 1; steps = record { weight = 1; id = None; lower = 0; upper = 8 } ∷ [] }
open-answers = refl

open-becomes : (after (two_states 1 8 8) 0).numbers ≡ record { lower = 1; upper = 8 } ∷ below 8 ∷ []
open-becomes = refl

near-becomes : (after (two_states 1 8 0) 0).numbers ≡ record { lower = 1; upper = 1 } ∷ below 0 ∷ []
near-becomes = refl

-- a cost of 8 is no less than giving up
dear-answers : backed (two_states 8 8 8) 0 ≡ no_action GIVE_UP
dear-answers = refl

-- three halves are 1 below and 2 above
halves-below : mean Lower 3 2 ≡ 1
halves-below = refl

halves-above : mean Upper 3 2 ≡ 2
halves-above = refl

-- the first of two equal means
first-of-equal : first_place 3 (5 ∷ 3 ∷ 3 ∷ []) ≡ 1
first-of-equal = refl
