-- The process of a task is that for which the process of its ground problem stands.
use Rattle.std.proofs.Common.{◌≡◌, ℕ, ◌*◌, ◌/◌, ◌<◌, true, map, length, Option, Some, None, refl, sym, ap, subst, ◌∙◌, arith}
use Rattle.std.specs.Prelude.{Contains}
use Rattle.std.specs.List.{slice_get, range_with_len}
use Rattle.std.proofs.lemmas.Option.{slice_get_within}
use Rattle.plain_list.specs.weighted.Mean.{IsAlike}
use Rattle.plain_list.specs.weighted.Operations.{IsScaled}
use Rattle.plain_list.proofs.lemmas.weighted.Alike.{alike_symmetric, alike_transitive, alike_scaled}
use Rattle.decision_process.specs.Process.{Outcome, Start}
use Rattle.decision_process.specs.homomorphism.Homomorphism.{AreOutcomesOf, IsLike}
use Rattle.ppddl_model.specs.declared.tree.Task.{Task}
use Rattle.ppddl_model.specs.State.{State}
use Rattle.ppddl_model.specs.Denominator.{common_denominator}
use Rattle.ppddl_model.specs.Outcomes.{Entry, products_of, outcomes}
use Rattle.ppddl_model.specs.Changing.{is_kept, kept_instances}
use Rattle.ppddl_model.specs.Steps as steps
use Rattle.ppddl_model.specs.Steps.{Instance, Charges, world, instances, is_open, step_den, item_outcomes, starts, start_den, process}
use Rattle.ppddl_model.proofs.Fixed.{state_of_texts_agrees}
use Rattle.ppddl_model.proofs.Knowing.{open_is_kept}
use Rattle.ppddl_model.proofs.Lists.{Contains-filter}
use Rattle.ppddl_model.proofs.Starts.{start_den-pos, step_den-pos}
use Rattle.ground_model.specs.declared.action.Choice.{Choice}
use Rattle.ground_model.specs.declared.action.GroundAction.{GroundAction}
use Rattle.ground_model.specs.Packed as packed
use Rattle.ground_model.specs.Packed.{has_bit}
use Rattle.ground_model.specs.Choices.{cost_of, next_state}
use Rattle.ground_model.specs.Ground.{Ground}
use Rattle.ground_model.specs.Steps.{den_of, is_open_at, outcome_of, step_at, ground_process}
use Rattle.ground_model.proofs.Steps.{times_rest, slice_get-contains, den_above, den_positive, start_den_positive, outcomes_stay_inside, outcomes_have_weight, starts_are_inside, starts_have_weight}
use Rattle.ground_meaning.specs.stands.Stands.{true_texts, IsInside, state_of, by_atoms, IsActionOf, IsGroundOf}
use Rattle.ground_meaning.specs.stands.Laws as laws
use Rattle.ground_meaning.proofs.lemmas.stands.Lists.{Contains-filter_cases, Contains-range, Contains-slice_get, zip_at, zip_back, positive_weighs}
use Rattle.ground_meaning.proofs.lemmas.stands.Texts.{is_found_again}

open_action : (found : Option GroundAction) (s : packed.State) → is_open_at found s ≡ true → (a : GroundAction) × (found ≡ Some a)
open_action None s opens = absurd cc
open_action (Some a) s opens = (a, refl)

module _ (g : Ground) (task : Task) (charges : Charges) (is : IsGroundOf g task charges) where
  -- the action whose instance it is
  action_of : (code : ℕ) (i : Instance) → slice_get (kept_instances task) code ≡ Some i
      → (a : GroundAction) × (slice_get g.actions code ≡ Some a) × IsActionOf g task charges a i
  action_of = zip_back (IsActionOf g task charges) g.actions (kept_instances task) is.stands.actions

  -- ---- at a packed state

  module _ (s : packed.State) (inside : IsInside g task s) where
    abbrev t : State
    t = state_of g task s

    same_open : (code : ℕ) (i : Instance) → slice_get (kept_instances task) code ≡ Some i
        → is_open_at (slice_get g.actions code) s ≡ is_open task i t
    same_open code i stands =
        let found = action_of code i stands in
        ap (λ a. is_open_at a s) found.1 ∙ found.2.opens s inside

    code_is_open : (code : ℕ) → Contains ((ground_process g).choices s) code → is_open_at (slice_get g.actions code) s ≡ true
    code_is_open code chosen =
        (Contains-filter_cases (λ k. is_open_at (slice_get g.actions k) s) (range_with_len 0 (length g.actions)) code chosen).1

    open_there : (code : ℕ) (i : Instance) → slice_get (kept_instances task) code ≡ Some i
        → Contains ((ground_process g).choices s) code → Contains ((process task charges).choices t) i
    open_there code i stands chosen =
        Contains-filter (λ j. is_open task j t) (instances task) i
        (Contains-filter_cases (is_kept task) (instances task) i (slice_get-contains (kept_instances task) code i stands)).0
        (sym (same_open code i stands) ∙ code_is_open code chosen)

    open_here : (code : ℕ) (i : Instance) → slice_get (kept_instances task) code ≡ Some i
        → Contains ((process task charges).choices t) i → Contains ((ground_process g).choices s) code
    open_here code i stands chosen =
        let found = action_of code i stands in
        Contains-filter (λ k. is_open_at (slice_get g.actions k) s) (range_with_len 0 (length g.actions)) code
        (Contains-range 0 (length g.actions) code (omega arith) (omega (arith, slice_get_within g.actions code found.0 found.1)))
        (same_open code i stands ∙ (Contains-filter_cases (λ j. is_open task j t) (instances task) i chosen).1)

    has_instance : (code : ℕ) → Contains ((ground_process g).choices s) code
        → (i : Instance) × (slice_get (kept_instances task) code ≡ Some i)
    has_instance code chosen =
        let a = open_action (slice_get g.actions code) s (code_is_open code chosen) in
        let found = zip_at (IsActionOf g task charges) g.actions (kept_instances task) is.stands.actions code a.0 a.1 in
        (found.0, found.1)

    has_code : (i : Instance) → Contains ((process task charges).choices t) i
        → (code : ℕ) × (slice_get (kept_instances task) code ≡ Some i)
    has_code i chosen =
        Contains-slice_get (kept_instances task) i
        (open_is_kept task t (state_of_texts_agrees task (true_texts (has_bit s) g.atoms)) i chosen)

    same_outcomes : (a : GroundAction) (i : Instance) → Contains g.actions a → IsActionOf g task charges a i
        → AreOutcomesOf (by_atoms g task) (step_at (den_of g.actions) (Some a) s) (den_of g.actions)
        (steps.step task charges i t) (step_den task)
    same_outcomes a i member action =
        let rest : ℕ = den_of g.actions / a.den in
        let w : Choice → ℕ = λ c. c.weight in
        let key : Choice → State × ℕ = λ c. (state_of g task (next_state s c), cost_of (has_bit s) c) in
        let w' : Outcome packed.State → ℕ = λ o. o.weight in
        let key' : Outcome packed.State → State × ℕ = λ o. (state_of g task o.next, o.cost) in
        let w'' : Outcome State → ℕ = λ o. o.weight in
        let key'' : Outcome State → State × ℕ = λ o. (o.next, o.cost) in
        let positive : 0 < a.den = den_above g is.is_problem a member in
        let scaled : IsScaled w key w' key' rest (outcome_of rest s) a.choices = record { weights = λ c _. refl; keys = λ c _. refl } in
        let over_rest : IsAlike w key w' key' a.choices a.den (map (outcome_of rest s) a.choices) (a.den * rest)
        = alike_scaled w key w' key' rest (outcome_of rest s) a.choices a.den scaled in
        let over_all : IsAlike w key w' key' a.choices a.den (map (outcome_of rest s) a.choices) (den_of g.actions)
        = subst (λ n. IsAlike w key w' key' a.choices a.den (map (outcome_of rest s) a.choices) n) (times_rest g.actions a member positive) over_rest in
        alike_transitive w' key' w key w'' key'' (map (outcome_of rest s) a.choices) (den_of g.actions) a.choices a.den
        (steps.step task charges i t) (step_den task) positive
        (alike_symmetric w key w' key' a.choices a.den (map (outcome_of rest s) a.choices) (den_of g.actions) over_all)
        (action.chances s inside)

    same_step : (code : ℕ) (i : Instance) → slice_get (kept_instances task) code ≡ Some i
        → AreOutcomesOf (by_atoms g task) ((ground_process g).step code s) (den_of g.actions) (steps.step task charges i t) (step_den task)
    same_step code i stands =
        let found = action_of code i stands in
        subst (λ a. AreOutcomesOf (by_atoms g task) (step_at (den_of g.actions) a s) (den_of g.actions) (steps.step task charges i t) (step_den task))
        (sym found.1) (same_outcomes found.0 i (slice_get-contains g.actions code found.0 found.1) found.2)

    like : IsLike (ground_process g) (process task charges) (by_atoms g task) s
    like = record {
      stands = λ code chosen. has_instance code chosen;
      is_found = λ i chosen. has_code i chosen;
      opens = λ code i stands. (open_there code i stands, open_here code i stands);
      outcomes = λ code i stands chosen. same_step code i stands;
      stays = λ code chosen o outcome. outcomes_stay_inside g is.is_problem code s inside o outcome;
    }

  -- ---- the task's weights

  step_weighs : (i : Instance) (t : State) (o : Outcome State) → Contains (steps.step task charges i t) o → 0 < o.weight
  step_weighs i t o inside =
      positive_weighs (λ (o : Outcome State). o.weight)
      (map (steps.outcome_of task charges i t) (outcomes (world task) (common_denominator task) i.action.effect i.binding t)) o inside

  start_weighs : (x : Start State) → Contains (starts task) x → 0 < x.weight
  start_weighs x inside =
      positive_weighs (λ (start : Start State). start.weight)
      (map (λ (x : Entry). record { weight = x.weight; state = x.adds })
      (products_of (map (item_outcomes (common_denominator task)) task.problem.init))) x inside

pub is_carried : laws.IsCarried
is_carried g task charges is = record {
  den_positive = den_positive g is.is_problem;
  den_positive_there = step_den-pos task is.denominators;
  penalties = is.stands.penalty;
  goals = λ s inside. is.stands.goals s inside;
  like = λ s inside off. like g task charges is s inside;
}

pub starts_are_carried : laws.StartsAreCarried
starts_are_carried g task charges is = record {
  den_positive = start_den_positive g is.is_problem;
  den_positive_there = start_den-pos task is.denominators;
  is_valid = starts_are_inside g is.is_problem;
  chances = is.stands.starts;
}

pub weights_are_positive : laws.OutcomesHaveWeight
weights_are_positive g task charges is = record {
  steps = λ s inside off code chosen o outcome. outcomes_have_weight g is.is_problem code s o outcome;
  steps_there = λ s inside off i chosen o outcome. step_weighs g task charges is i (state_of g task s) o outcome;
  starts_here = starts_have_weight g is.is_problem;
  starts_there = start_weighs g task charges is;
}

pub states_are_found : laws.StatesAreFound
states_are_found g task charges is s inside = is_found_again g task charges is s inside
