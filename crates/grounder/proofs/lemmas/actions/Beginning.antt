-- What holds of the actions of a well-formed task that is within the early limits.
use Rattle.std.proofs.Common.{◌≡◌, ℕ, ◌+◌, ◌≤◌, true, ◌&&◌, List, [], ◌∷◌, map, length, subst, arith}
use Rattle.std.specs.Prelude.{All, Result, Ok}
use Rattle.std.specs.List.{list_all}
use Rattle.std.proofs.lemmas.Bool.{and_parts}
use Rattle.std.proofs.lemmas.List.Elements.{All-nil, All-cons}
use Rattle.plain_list.specs.Results.{◌>>=◌}
use Rattle.plain_list.proofs.Results.{bind_ok, ok_is}
use Rattle.ppddl_model.specs.declared.tree.Action.{Action}
use Rattle.ppddl_model.specs.declared.tree.Param.{Param}
use Rattle.ppddl_model.specs.declared.tree.Task.{Task}
use Rattle.ppddl_model.specs.Steps.{world, instances}
use Rattle.ppddl_model.specs.WellFormed.{is_plain, are_distinct, has_types, params_fit, condition_fits, effect_fits, action_fits, domain_world, IsWellFormed}
use Rattle.ground_meaning.specs.choices.Joint.{den_of}
use Rattle.ground_meaning.specs.declared.refusals.limits.LimitCode.{LimitCode}
use Rattle.ground_meaning.specs.declared.refusals.limits.LimitCode.TheVariants.{Denominator, GroundSize, Instances, Objects}
use Rattle.ground_meaning.specs.declared.refusals.limits.TheConstants.{MOST_GROUND_SIZE}
use Rattle.ground_meaning.specs.refusals.Limits.{within, actions_within}
use Rattle.grounder.specs.limits.Early.{sizes_of, early_limits}
use Rattle.grounder.specs.instance_names.Names.{variables_of}
use Rattle.grounder.specs.actions.Forming.{IsFine}
use Rattle.grounder.proofs.lemmas.actions.Tests.{passed}

module _ (task : Task) where
  -- what is known of the actions and sizes behind one that is within its limits
  one_passed : (a : Action) (more : List Action) (size last : ℕ) → actions_within task size (a ∷ more) ≡ Ok last
      → (within (den_of (world task) a.effect) Denominator ≡ Ok tt) × (within (size + sizes_of task a) GroundSize ≡ Ok tt)
      × (actions_within task (size + sizes_of task a) more ≡ Ok last)
  one_passed a more size last is =
      let later : Result ℕ LimitCode = actions_within task (size + sizes_of task a) more in
      let first = bind_ok (within (den_of (world task) a.effect) Denominator) (λ _. within (size + sizes_of task a) GroundSize >>= λ _. later) last is in
      let second = bind_ok (within (size + sizes_of task a) GroundSize) (λ _. later) last first.2 in
      (first.1, second.1, second.2)

  small : (actions : List Action) (size last : ℕ) → size ≤ MOST_GROUND_SIZE → actions_within task size actions ≡ Ok last → last ≤ MOST_GROUND_SIZE
  small [] size last room is = let same : size ≡ last = ok_is {E = LimitCode} size last is in subst (λ n. n ≤ MOST_GROUND_SIZE) same room
  small (a ∷ more) size last room is =
      let parts = one_passed a more size last is in
      small more (size + sizes_of task a) last (passed (size + sizes_of task a) GroundSize parts.1) parts.2

  distinct : (a : Action) → action_fits (domain_world task.domain) task.domain a ≡ true → are_distinct (variables_of a) ≡ true
  distinct a fits =
      let effect = and_parts (is_plain a.name && params_fit task.domain.types a.params && condition_fits (domain_world task.domain) task.domain a.condition a.params)
      (effect_fits (domain_world task.domain) task.domain a.effect a.params) fits in
      let condition = and_parts (is_plain a.name && params_fit task.domain.types a.params)
      (condition_fits (domain_world task.domain) task.domain a.condition a.params) effect.0 in
      let params = and_parts (is_plain a.name) (params_fit task.domain.types a.params) condition.0 in
      (and_parts (are_distinct (map (λ (p : Param). p.name) a.params)) (list_all (has_types task.domain.types) a.params) params.1).0

  fine : (actions : List Action) (size last : ℕ) → actions_within task size actions ≡ Ok last
      → list_all (action_fits (domain_world task.domain) task.domain) actions ≡ true → All (IsFine task) actions
  fine [] size last is fits = All-nil (IsFine task)
  fine (a ∷ more) size last is fits =
      let parts = one_passed a more size last is in
      let both = and_parts (action_fits (domain_world task.domain) task.domain a) (list_all (action_fits (domain_world task.domain) task.domain) more) fits in
      All-cons (IsFine task) a more
      (record { distinct = distinct a both.0; denominator = passed (den_of (world task) a.effect) Denominator parts.0 })
      (fine more (size + sizes_of task a) last parts.2 both.1)

  module _ (tested : ℕ) (early : early_limits task ≡ Ok tested) where
    sized : actions_within task 0 task.domain.actions ≡ Ok tested
    sized =
        let all : Result ℕ LimitCode = actions_within task 0 task.domain.actions in
        let tried : Result (Unit {0}) LimitCode = within (length (instances task)) Instances in
        let first = bind_ok (within (length (world task).objects) Objects) (λ _. tried >>= λ _. all) tested early in
        (bind_ok tried (λ _. all) tested first.2).2

    pub tested_small : tested ≤ MOST_GROUND_SIZE
    tested_small = small task.domain.actions 0 tested (omega arith) sized

    pub all_fine : IsWellFormed task → All (IsFine task) task.domain.actions
    all_fine fit = fine task.domain.actions 0 tested sized fit.actions
