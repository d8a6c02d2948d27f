-- Walks of a ground problem under a policy: what is drawn decides which outcomes come.
--     first_above w items r      the first of the items at which the running sum of their weights is above r, if there is one
--     drawn w den items r        the item that a draw r gives: by r modulo the sum of the weights
--     start_drawn g r            the start that it gives
--     choice_drawn g k r         the choice of the action with code k
--     ended end steps cost       a walk that has ended so
--     stopped g policy steps cost s goes
--                                a walk that stands at s after so many steps at this cost: at a goal it ends there; else it ends where
--                                the policy gives up, and pays the penalty; else it is what `goes` says of the action
--     walk_on g policy draw left steps cost s
--                                such a walk that makes at most `left` steps more: the next draw gives a choice of the action, the walk
--                                pays its cost, with that of the guarded parts that hold, and goes to its state
--     walk g policy draw most    draw 0 gives the start, and each further draw one step, of which there are at most so many
-- Where nothing can be drawn the walk stays open. No ground problem has such starts or such an action.
-- Source: simulating a policy, as in Monte Carlo policy evaluation (Sutton and Barto 2018, section 5.1).
use Rattle.std.specs.Prelude.{ℕ, suc, zero, ◌+◌, ◌-◌, ◌%◌, nat_lt, cond, Option, Some, None, List, [], ◌∷◌}
use Rattle.std.specs.List.{slice_get}
use Rattle.ground_model.specs.declared.action.Choice.{Choice}
use Rattle.ground_model.specs.declared.action.GroundAction.{GroundAction}
use Rattle.ground_model.specs.declared.start.Start.{Start}
use Rattle.ground_model.specs.Packed.{State, has_bit}
use Rattle.ground_model.specs.Choices.{cost_of, next_state}
use Rattle.ground_model.specs.Ground.{Ground}
use Rattle.ground_model.specs.Steps.{ground_process}
use Rattle.policy_walk.specs.declared.ends.Walk.{Walk}
use Rattle.policy_walk.specs.declared.ends.WalkEnd.{WalkEnd}
use Rattle.policy_walk.specs.declared.ends.WalkEnd.TheVariants.{Goal, GaveUp, Open}
use Rattle.policy_walk.specs.Policies.{Policy}

abbrev pub first_above : {X : Type 0} → (X → ℕ) → List X → ℕ → Option X
first_above w [] r = None
first_above w (x ∷ more) r = cond (nat_lt r (w x)) (Some x) (first_above w more (r - w x))

abbrev pub drawn : {X : Type 0} → (X → ℕ) → ℕ → List X → ℕ → Option X
drawn w den items r = first_above w items (r % den)

abbrev pub start_drawn : Ground → ℕ → Option Start
start_drawn g r = drawn (λ (x : Start). x.weight) g.start_den g.starts r

abbrev pub choice_of : Option GroundAction → ℕ → Option Choice
choice_of None r = None
choice_of (Some a) r = drawn (λ (c : Choice). c.weight) a.den a.choices r

abbrev pub choice_drawn : Ground → ℕ → ℕ → Option Choice
choice_drawn g k r = choice_of (slice_get g.actions k) r

abbrev pub ended : WalkEnd → ℕ → ℕ → Walk
ended end steps cost = record { end = end; steps = steps; cost = cost }

module _ (g : Ground) (policy : Policy) where
  abbrev pub stopped : ℕ → ℕ → State → (ℕ → Walk) → Walk
  stopped steps cost s goes =
      cond ((ground_process g).goal s) (ended Goal steps cost)
      (elim (policy s) [ None ↦ ended GaveUp steps (cost + g.penalty) | Some k ↦ goes k ])

  module _ (draw : ℕ → ℕ) where
    abbrev pub walk_on : ℕ → ℕ → ℕ → State → Walk
    walk_on zero steps cost s = stopped steps cost s (λ k. ended Open steps cost)
    walk_on (suc left) steps cost s =
        stopped steps cost s (λ k. elim (choice_drawn g k (draw (steps + 1))) [
          | None ↦ ended Open steps cost
          | Some c ↦ walk_on left (steps + 1) (cost + cost_of (has_bit s) c) (next_state s c)
        ])

    abbrev pub walk : ℕ → Walk
    walk most = elim (start_drawn g (draw 0)) [ None ↦ ended Open 0 0 | Some x ↦ walk_on most 0 0 x.state ]
