-- Bounds over listed states in memory: what they are, and what a backup does to them. A successor without id counts with the
-- numbers that are listed of it.
--     Listing                  the penalty, the starts, the states, the interval of each state, and the last backup
--     step_to, steps_to        what is read of a state with a weight, and of the outcomes of an action
--     sum_over, expected       the sum of weight * (cost + number) over the outcomes of an action; its mean, rounded down for
--                              lower numbers and up for upper ones, and at most the penalty
--     least cap xs             the least of the numbers and the cap
--     first_place x xs         the first place of x; the length where it does not stand there
--     best, backed, after      the backup of a state by all of its actions (bounds are those of value iteration, Bertsekas
--                              2007): it answers the first action of the least lower mean where that is below the penalty, and
--                              raises the lower and sinks the upper number; numbers that would cross meet
--     IsListing l              all numbers are in their ranges
--     HasUnplacedIn states, HasUnplaced l
--                              a listed state has no id
use Rattle.std.specs.Prelude.{◌≡◌, ℕ, suc, ◌+◌, ◌*◌, ◌/◌, ◌^◌, ◌<◌, ◌≤◌, min, max, true, false, cond}
use Rattle.std.specs.Prelude.{nat_eq, nat_lt, Option, Some, None, List, [], ◌∷◌, length, map, sum, get_or}
use Rattle.std.specs.Prelude.{All, slice_set}
use Rattle.std.specs.Int.{div_ceil}
use Rattle.std.specs.List.{slice_get}
use Rattle.brtdp_trial.specs.Meaning.{Last}
use Rattle.brtdp_trial.specs.declared.step.TheConstants.{AT_GOAL, GIVE_UP}
use Rattle.brtdp_trial.specs.declared.step.Step.{Step}
use Rattle.brtdp_trial.specs.declared.listed.Interval.{Interval}
use Rattle.brtdp_trial.specs.declared.listed.Outcome.{Outcome}
use Rattle.brtdp_trial.specs.declared.listed.ListedAction.{ListedAction}
use Rattle.brtdp_trial.specs.declared.listed.ListedState.{ListedState}
use Rattle.brtdp_trial.specs.declared.listed.ListedStart.{ListedStart}
use Rattle.brtdp_trial.specs.declared.backing.Side.{Side}
use Rattle.brtdp_trial.specs.declared.backing.Side.TheVariants.{Lower, Upper}

pub record Listing : Type 0 where
  pub penalty : ℕ
  pub starts : List ListedStart
  pub states : List ListedState
  pub numbers : List Interval
  pub last : Last

abbrev pub closed : Interval
closed = record { lower = 0; upper = 0 }

abbrev pub absent : ListedState
absent = record { placed = false; goal = false; actions = [] }

abbrev pub interval_at : List Interval → ℕ → Interval
interval_at numbers i = get_or numbers i closed

abbrev pub state_at : List ListedState → ℕ → ListedState
state_at states i = get_or states i absent

abbrev pub HasUnplacedIn : List ListedState → Type 0
HasUnplacedIn states = (i : ℕ) × (i < length states) × ((state_at states i).placed ≡ false)

abbrev pub HasUnplaced : Listing → Type 0
HasUnplaced l = HasUnplacedIn l.states

abbrev pub number_of : Side → Interval → ℕ
number_of Lower x = x.lower
number_of Upper x = x.upper

-- ---- steps

abbrev pub step_to : List ListedState → List Interval → ℕ → ℕ → Step
step_to states numbers weight i = record {
  weight = weight;
  id = cond (state_at states i).placed (Some i) None;
  lower = (interval_at numbers i).lower;
  upper = (interval_at numbers i).upper;
}

abbrev pub steps_to : List ListedState → List Interval → List Outcome → List Step
steps_to states numbers = map (λ o. step_to states numbers o.weight o.next)

abbrev pub starts_of : List ListedState → List Interval → List ListedStart → List Step
starts_of states numbers = map (λ x. step_to states numbers x.weight x.state)

-- ---- means

abbrev pub term : Side → List Interval → Outcome → ℕ
term side numbers o = o.weight * (o.cost + number_of side (interval_at numbers o.next))

abbrev pub sum_over : Side → List Interval → List Outcome → ℕ
sum_over side numbers outcomes = sum (map (term side numbers) outcomes)

abbrev pub mean : Side → ℕ → ℕ → ℕ
mean Lower total den = total / den
mean Upper total den = div_ceil total den

abbrev pub expected : ℕ → Side → List Interval → ListedAction → ℕ
expected cap side numbers a = min cap (mean side (sum_over side numbers a.outcomes) a.den)

abbrev pub least : ℕ → List ℕ → ℕ
least cap [] = cap
least cap (x ∷ xs) = min x (least cap xs)

abbrev pub first_place : ℕ → List ℕ → ℕ
first_place x [] = 0
first_place x (y ∷ ys) = cond (nat_eq x y) 0 (suc (first_place x ys))

abbrev pub means : ℕ → Side → List Interval → List ListedAction → List ℕ
means cap side numbers = map (expected cap side numbers)

abbrev pub best : ℕ → Side → List Interval → List ListedAction → ℕ
best cap side numbers actions = least cap (means cap side numbers actions)

-- ---- backups

abbrev pub no_action : ℕ → Last
no_action code = record { code = code; den = 1; steps = [] }

abbrev pub last_in : ℕ → ℕ → List Step → Last
last_in code den steps = record { code = code; den = den; steps = steps }

abbrev pub narrowed : Interval → ℕ → ℕ → Interval
narrowed x low high =
    record { lower = max x.lower low; upper = max (min x.upper high) (max x.lower low) }

module _ (cap : ℕ) (states : List ListedState) (numbers : List Interval) where
  abbrev pub with_action : ℕ → Option ListedAction → Last
  with_action code None = no_action GIVE_UP
  with_action code (Some a) =
      record { code = code; den = a.den; steps = steps_to states numbers a.outcomes }

  abbrev pub answer_at : List ListedAction → ℕ → Last
  answer_at actions place = with_action place (slice_get actions place)

  -- the first action whose lower mean is the least, where that is below the penalty
  abbrev pub answer : List ListedAction → ℕ → Last
  answer actions low =
      cond (nat_lt low cap) (answer_at actions (first_place low (means cap Lower numbers actions)))
      (no_action GIVE_UP)

  abbrev pub answered : ListedState → Last
  answered s = cond s.goal (no_action AT_GOAL) (answer s.actions (best cap Lower numbers s.actions))

  abbrev pub narrows : ListedState → Interval → Interval
  narrows s x =
      cond s.goal x (narrowed x (best cap Lower numbers s.actions) (best cap Upper numbers s.actions))

abbrev pub backed : Listing → ℕ → Last
backed l id = answered l.penalty l.states l.numbers (state_at l.states id)

abbrev pub after : Listing → ℕ → Listing
after l id = record l {
  numbers = slice_set l.numbers id
      (narrows l.penalty l.states l.numbers (state_at l.states id) (interval_at l.numbers id));
  last = backed l id;
}

abbrev pub listing_of : ℕ → List ListedStart → List ListedState → List Interval → Last → Listing
listing_of penalty starts states numbers last =
    record { penalty = penalty; starts = starts; states = states; numbers = numbers; last = last }

-- ---- ranges

pub record IsRange (x : Interval) : Type 0 where
  pub ordered : x.lower ≤ x.upper
  pub bounded : x.upper ≤ 10 ^ 14

pub record IsOutcome (n : ℕ) (o : Outcome) : Type 0 where
  pub weight_above : 0 < o.weight
  pub weight_within : o.weight ≤ 10 ^ 18
  pub cost_within : o.cost ≤ 10 ^ 14
  pub next_within : o.next < n

pub record IsListedAction (n : ℕ) (a : ListedAction) : Type 0 where
  pub outcomes : All (IsOutcome n) a.outcomes
  pub whole : sum (map (λ (o : Outcome). o.weight) a.outcomes) ≡ a.den
  pub den_above : 1 ≤ a.den
  pub den_within : a.den ≤ 10 ^ 18
  pub count : length a.outcomes ≤ 64

pub record IsListedState (n : ℕ) (s : ListedState) : Type 0 where
  pub actions : All (IsListedAction n) s.actions
  pub count : length s.actions ≤ 65534

pub record IsListing (l : Listing) : Type 0 where
  pub penalty : l.penalty ≤ 10 ^ 14
  pub some_start : 1 ≤ length l.starts
  pub few_starts : length l.starts ≤ 64
  pub starts_positive : All (λ w. 0 < w) (map (λ (x : ListedStart). x.weight) l.starts)
  pub starts_whole : sum (map (λ (x : ListedStart). x.weight) l.starts) ≤ 10 ^ 18
  pub starts_placed : All (λ (x : ListedStart). (state_at l.states x.state).placed ≡ true) l.starts
  pub states : All (IsListedState (length l.states)) l.states
  pub numbers : All IsRange l.numbers
  pub a_number_each : length l.numbers ≡ length l.states
