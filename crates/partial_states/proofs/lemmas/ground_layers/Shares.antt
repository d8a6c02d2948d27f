-- The shares of the layers of a group are within the costs.
use Rattle.std.proofs.Common.{◌≡◌, ℕ, suc, ◌*◌, ◌/◌, ◌≤◌, Bool, true, false, cond, List, [], ◌∷◌, map, arith}
use Rattle.std.proofs.Math.Nat.{mul_comm}
use Rattle.plain_list.specs.weighted.Mean.{total}
use Rattle.plain_list.proofs.lemmas.weighted.Totals.{total-same, total-times}
use Rattle.decision_process.specs.Process.{Outcome}
use Rattle.decision_process.proofs.Rounding.{floor-times_le}
use Rattle.balanced_pair.specs.layers.Layers.{WithinCosts}
use Rattle.ground_model.specs.declared.action.Choice.{Choice}
use Rattle.ground_model.specs.declared.action.GroundAction.{GroundAction}
use Rattle.ground_model.specs.Packed.{State}
use Rattle.ground_model.specs.Steps.{outcome_of}
use Rattle.partial_states.specs.ground_layers.GroundLayers.{GroundLayer, touches, touched_own, share_of, shares_of}

one_times : (b : Bool) (m : ℕ) → cond b m 0 ≡ cond b 1 0 * m
one_times true m = omega arith
one_times false m = omega arith

pub within_same : (f h : ℕ → ℕ) (outcomes : List (Outcome State)) → ((i : ℕ) → f i ≡ h i) → WithinCosts f outcomes → WithinCosts h outcomes
within_same f h [] same within = tt
within_same f h (o ∷ outcomes) same within =
    (omega (arith, same 0, within.0), within_same (λ i. f (suc i)) (λ i. h (suc i)) outcomes (λ i. same (suc i)) within.1)

module _ (group : List GroundLayer) (a : GroundAction) where
  shares_of_choice : (c : Choice) → total (λ (l : GroundLayer). share_of group l a c) group ≤ c.cost
  shares_of_choice c =
      let part : ℕ = c.cost / touched_own group a in
      let each : total (λ (l : GroundLayer). share_of group l a c) group
      ≡ total (λ (l : GroundLayer). cond (touches l.own a) 1 0 * part) group
      = total-same (λ (l : GroundLayer). share_of group l a c) (λ (l : GroundLayer). cond (touches l.own a) 1 0 * part) group
      (λ l _. one_times (touches l.own a) part) in
      let sum : total (λ (l : GroundLayer). cond (touches l.own a) 1 0 * part) group ≡ touched_own group a * part
      = total-times (λ (l : GroundLayer). cond (touches l.own a) 1 0) part group in
      omega (arith, each, sum, mul_comm (touched_own group a) part, floor-times_le c.cost (touched_own group a))

  pub shares_within : (scale : ℕ) (s : State) (choices : List Choice)
      → WithinCosts (λ i. total (λ (l : GroundLayer). shares_of group l a choices i) group) (map (outcome_of scale s) choices)
  shares_within scale s [] = tt
  shares_within scale s (c ∷ choices) = (
    omega (arith, shares_of_choice c),
    shares_within scale s choices,
  )
