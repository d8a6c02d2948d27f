-- What the choices of an action lead to, and which codes are those of actions.
use Rattle.std.proofs.Common.{◌≡◌, ℕ, suc, zero, ◌<◌, ◌≤◌, Bool, true, cond, Option, Some, None, List, [], ◌∷◌, length, map, filter, refl, sym, ap, ◌∙◌, arith, slice_index_or}
use Rattle.std.specs.Prelude.{flat_map}
use Rattle.std.specs.List.{All, range_with_len, slice_get}
use Rattle.std.proofs.lemmas.List.Elements.{All-contains, Contains-get_or, filter_passes}
use Rattle.std.proofs.lemmas.Option.{slice_get_read}
use Rattle.decision_process.specs.Process.{Outcome}
use Rattle.decision_process.specs.Levels.{nexts, successors}
use Rattle.ground_model.specs.declared.action.Choice.{Choice}
use Rattle.ground_model.specs.declared.action.GroundAction.{GroundAction}
use Rattle.ground_model.specs.declared.limits.TheConstants.{MOST_CHOICE_COST}
use Rattle.ground_model.specs.Packed.{State}
use Rattle.ground_model.specs.Choices.{cost_of, next_state}
use Rattle.ground_model.specs.Ground.{Ground}
use Rattle.ground_model.specs.Invariant.{IsGroundProblem}
use Rattle.ground_model.specs.Steps.{den_of, is_open_at, is_open, outcome_of, step_at, ground_process}
use Rattle.ground_step.specs.Steps.{choices_at, choices_of}
use Rattle.ground_step.proofs.Outcomes.{cost_within, choice_is}
use Rattle.applicable_actions.specs.distinct.Enough.{AreEnough}

next_of_outcomes : (scale : ℕ) (s : State) (cs : List Choice) → map (λ (o : Outcome State). o.next) (map (outcome_of scale s) cs) ≡ map (next_state s) cs
next_of_outcomes scale s [] = refl
next_of_outcomes scale s (c ∷ cs) = ap (λ l. next_state s c ∷ l) (next_of_outcomes scale s cs)

nexts_at : (actions : List GroundAction) (found : Option GroundAction) (s : State)
    → map (λ (o : Outcome State). o.next) (step_at (den_of actions) found s) ≡ map (next_state s) (choices_at found)
nexts_at actions None s = refl
nexts_at actions (Some a) s = next_of_outcomes _ s a.choices

open_within : (actions : List GroundAction) (k : ℕ) (s : State) → is_open_at (slice_get actions k) s ≡ true → k < length actions
open_within [] k s opens = absurd cc
open_within (a ∷ actions) zero s opens = omega arith
open_within (a ∷ actions) (suc k) s opens = let below : k < length actions = open_within actions k s opens in omega (arith, below)

module _ (g : Ground) where
  -- the next states of an action are those of its choices
  pub nexts_are : (s : State) (k : ℕ) → nexts (ground_process g) k s ≡ map (next_state s) (choices_of g k)
  nexts_are s k = nexts_at g.actions (slice_get g.actions k) s

  -- codes that are enough are codes of actions
  pub codes_within : (s : State) (codes : List ℕ) → AreEnough g s codes → All (λ k. k < length g.actions) codes
  codes_within s codes enough i d within =
      let code : ℕ = slice_index_or codes i d in
      open_within g.actions code s
      (All-contains (λ k. is_open g k s ≡ true) (filter (λ k. is_open g k s) (range_with_len 0 (length g.actions))) code
      (filter_passes (λ k. is_open g k s) (range_with_len 0 (length g.actions)))
      (enough.are_open code (Contains-get_or codes i d within)))

  -- a choice of an action costs no more than the greatest cost
  pub choice_costs : IsGroundProblem g → (k : ℕ) (items : List Choice) → items ≡ choices_of g k → (i : ℕ) (c : Choice) → i < length items
      → c ≡ slice_index_or items i c → (bit : ℕ → Bool) → cost_of bit c ≤ MOST_CHOICE_COST
  choice_costs is k items are i c within read =
      cost_within (length g.atoms) c
      (choice_is g is k i c (ap (λ (xs : List Choice). slice_get xs i) (sym are) ∙ slice_get_read items (length items) i c refl within read))

pub successors_at : (g : Ground) (s : State) → (ground_process g).goal s ≡ true → [] ≡ successors (ground_process g) s
successors_at g s on = sym (ap (λ b. cond b [] (flat_map (λ k. nexts (ground_process g) k s) ((ground_process g).choices s))) on)
