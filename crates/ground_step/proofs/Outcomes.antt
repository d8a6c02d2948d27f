-- Outcomes by their places, and what choices cost.
use Rattle.std.proofs.Common.{◌≡◌, ℕ, ◌+◌, ◌/◌, ◌≤◌, Bool, true, false, cond, List, [], ◌∷◌, length, Option, Some, None, option_map, refl, ap, ◌∙◌, arith}
use Rattle.std.specs.List.{slice_get}
use Rattle.std.proofs.lemmas.Option.{slice_get-map}
use Rattle.std.proofs.lemmas.List.Elements.{All-contains}
use Rattle.plain_list.specs.weighted.Mean.{total}
use Rattle.decision_process.specs.Process.{Outcome}
use Rattle.ground_model.specs.declared.action.Choice.{Choice}
use Rattle.ground_model.specs.declared.action.GroundAction.{GroundAction}
use Rattle.ground_model.specs.declared.action.Guarded.{Guarded}
use Rattle.ground_model.specs.declared.limits.TheConstants.{MOST_CHOICE_COST}
use Rattle.ground_model.specs.Packed.{State, has_bit}
use Rattle.ground_model.specs.Truth.{truth}
use Rattle.ground_model.specs.Choices.{active_cost, cost_of, next_state}
use Rattle.ground_model.specs.Ground.{Ground}
use Rattle.ground_model.specs.Invariant.{IsChoice, IsAction, IsGroundProblem}
use Rattle.ground_model.specs.Steps.{den_of, outcome_of, step_at}
use Rattle.ground_model.proofs.Steps.{slice_get-contains}
use Rattle.ground_step.specs.Steps.{choices_at, choices_of, next_at, cost_at}

-- ---- costs

part_within : (b : Bool) (cost sum rest : ℕ) → sum ≤ rest → cond b cost 0 + sum ≤ cost + rest
part_within true cost sum rest below = omega (arith, below)
part_within false cost sum rest below = omega (arith, below)

active_within : (bit : ℕ → Bool) (parts : List Guarded) → active_cost bit parts ≤ total (λ (x : Guarded). x.cost) parts
active_within bit [] = omega arith
active_within bit (x ∷ parts) =
    part_within (truth bit x.condition) x.cost (active_cost bit parts) (total (λ (y : Guarded). y.cost) parts)
    (active_within bit parts)

pub cost_of-parts : (bit : ℕ → Bool) (c : Choice) → cost_of bit c ≤ c.cost + total (λ (x : Guarded). x.cost) c.guarded
cost_of-parts bit c = omega (arith, active_within bit c.guarded)

pub cost_within : (n : ℕ) (c : Choice) → IsChoice n c → (bit : ℕ → Bool) → cost_of bit c ≤ MOST_CHOICE_COST
cost_within n c is bit = omega (arith, cost_of-parts bit c, is.cost_within)

-- ---- places

choices_at-action : (found : Option GroundAction) (i : ℕ) (c : Choice) → slice_get (choices_at found) i ≡ Some c
    → (a : GroundAction) × (found ≡ Some a) × (slice_get a.choices i ≡ Some c)
choices_at-action None i c is = absurd cc
choices_at-action (Some a) i c is = (a, refl, is)

pub choice_is : (g : Ground) → IsGroundProblem g → (k i : ℕ) (c : Choice)
    → slice_get (choices_of g k) i ≡ Some c → IsChoice (length g.atoms) c
choice_is g is k i c place =
    let found = choices_at-action (slice_get g.actions k) i c place in
    let action : IsAction (length g.atoms) found.0 =
    All-contains (IsAction (length g.atoms)) g.actions found.0 is.actions (slice_get-contains g.actions k found.0 found.1) in
    All-contains (IsChoice (length g.atoms)) found.0.choices c action.choices (slice_get-contains found.0.choices i c found.2)

step_at-outcome : (den : ℕ) (found : Option GroundAction) (s : State) (i : ℕ) (c : Choice)
    → slice_get (choices_at found) i ≡ Some c
    → (scale : ℕ) × (slice_get (step_at den found s) i ≡ Some (outcome_of scale s c))
step_at-outcome den found s i c place =
    let at = choices_at-action found i c place in (
      den / at.0.den,
      ap (λ f. slice_get (step_at den f s) i) at.1
          ∙ slice_get-map (outcome_of (den / at.0.den) s) at.0.choices i
          ∙ ap (option_map (outcome_of (den / at.0.den) s)) at.2,
    )

module _ (g : Ground) (k i : ℕ) (c : Choice) (s : State) (place : slice_get (choices_of g k) i ≡ Some c) where
  pub next_at-choice : next_at g k i s ≡ Some (next_state s c)
  next_at-choice =
      ap (option_map (λ (o : Outcome State). o.next))
      (step_at-outcome (den_of g.actions) (slice_get g.actions k) s i c place).1

  pub cost_at-choice : cost_at g k i s ≡ Some (cost_of (has_bit s) c)
  cost_at-choice =
      ap (option_map (λ (o : Outcome State). o.cost))
      (step_at-outcome (den_of g.actions) (slice_get g.actions k) s i c place).1
