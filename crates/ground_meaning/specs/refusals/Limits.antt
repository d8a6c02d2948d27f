-- The first refusal of a task that is to be grounded. The limits are tested in a fixed order; the ground size is added up on the way.
--     within n code               n is within the limit of that code, or the code
--     tried a                     the instances of an action that are tried
--     actions_within size as      the size so far behind the actions: for each its denominator, then the sizes of its tried preconditions
--     is_cheap i                  no choice of the instance is above the limit of costs
--     instances_within count size is
--                                 the size so far behind the instances, of which so many stood before: for each the count, one effect's
--                                 size, its joint choices, their costs, and the effect's size once more for each further choice
--     limits                      all limits in order, from the objects to the initial states
--     cost_refusal, penalty_refusal
--                                 an action that may cost nothing; neither a penalty nor a goal reward
--     grounded task terms         the ground problem of a task, or the first refusal
use Rattle.std.specs.Prelude.{ℕ, ◌+◌, ◌*◌, ◌==◌, nat_le, Bool, not, if◌then◌else◌, List, [], ◌∷◌, length, Option, Some, None, Result, Ok, Err}
use Rattle.std.specs.List.{find, list_any}
use Rattle.plain_list.specs.Results.{◌>>=◌}
use Rattle.ppddl_model.specs.declared.tree.Action.{Action}
use Rattle.ppddl_model.specs.declared.tree.Task.{Task}
use Rattle.ppddl_model.specs.Objects.{bindings}
use Rattle.ppddl_model.specs.Changing.{kept_instances}
use Rattle.ppddl_model.specs.Steps.{Instance, Charges, Terms, charges_of, world, instances, base_cost, sure_cost}
use Rattle.ground_model.specs.Ground.{Ground}
use Rattle.ground_meaning.specs.choices.Joint.{den_of, charged_choices}
use Rattle.ground_meaning.specs.choices.Limits.{widest, is_dear, condition_size, effect_size}
use Rattle.ground_meaning.specs.declared.refusals.limits.LimitCode.{LimitCode}
use Rattle.ground_meaning.specs.declared.refusals.limits.LimitCode.TheVariants.{Choices, Denominator, Instances, Actions, Atoms, Starts, Objects, OutcomeCost, GroundSize}
use Rattle.ground_meaning.specs.declared.refusals.refusal.GroundRefusal.{GroundRefusal}
use Rattle.ground_meaning.specs.declared.refusals.refusal.GroundRefusal.TheVariants.{CostNotPositive, NoPenalty, Limit}
use Rattle.ground_meaning.specs.refusals.Codes.{most_of}
use Rattle.ground_meaning.specs.refusals.Atoms.{numbering_of}
use Rattle.ground_meaning.specs.refusals.Starts.{starts_den, widest_start}
use Rattle.ground_meaning.specs.refusals.Problem.{joint_of, ground_problem}

abbrev pub checked : Bool → LimitCode → Result (Unit {0}) LimitCode
checked holds code = if holds then Ok tt else Err code

abbrev pub within : ℕ → LimitCode → Result (Unit {0}) LimitCode
within n code = checked (nat_le n (most_of code)) code

module _ (task : Task) where
  abbrev pub tried : Action → ℕ
  tried a = length (bindings (world task) a.params [])

  abbrev pub actions_within : ℕ → List Action → Result ℕ LimitCode
  actions_within size [] = Ok size
  actions_within size (a ∷ more) =
      within (den_of (world task) a.effect) Denominator
      >>= λ _. within (size + tried a * condition_size (world task) a.condition) GroundSize
      >>= λ _. actions_within (size + tried a * condition_size (world task) a.condition) more

  module _ (charges : Charges) where
    abbrev pub is_cheap : Instance → Bool
    is_cheap i =
        not (list_any is_dear (charged_choices (world task) (numbering_of task) i.action.effect i.binding (base_cost task charges)))

    -- one effect's size for each choice
    abbrev pub size_of : Instance → ℕ
    size_of i = length (joint_of task charges i).list * effect_size (world task) i.action.effect

    abbrev pub instances_within : ℕ → ℕ → List Instance → Result ℕ LimitCode
    instances_within count size [] = Ok size
    instances_within count size (i ∷ more) =
        within (count + 1) Actions
        >>= λ _. within (size + effect_size (world task) i.action.effect) GroundSize
        >>= λ _. within (widest (world task) (numbering_of task) i.action.effect i.binding) Choices
        >>= λ _. checked (is_cheap i) OutcomeCost
        >>= λ _. within (size + size_of i) GroundSize
        >>= λ _. instances_within (count + 1) (size + size_of i) more

    abbrev pub limits : Result (Unit {0}) LimitCode
    limits =
        within (length (world task).objects) Objects
        >>= λ _. within (length (instances task)) Instances
        >>= λ _. actions_within 0 task.domain.actions
        >>= λ tested. instances_within 0 tested (kept_instances task)
        >>= λ size. within (size + condition_size (world task) task.problem.goal) GroundSize
        >>= λ _. within (length (numbering_of task).atoms) Atoms
        >>= λ _. within (starts_den task.problem.init) Denominator
        >>= λ _. within (widest_start (numbering_of task) task.problem.init) Starts

  module _ (terms : Terms) where
    -- what a step costs does not depend on the penalty
    abbrev pub free_action : Option Action
    free_action = find (λ (a : Action). sure_cost task (record { penalty = 0; step_cost = terms.step_cost }) a == 0) task.domain.actions

    abbrev pub refused_by : Option Action → Result (Unit {0}) GroundRefusal
    refused_by None = Ok tt
    refused_by (Some a) = Err (CostNotPositive a.line)

    abbrev pub charged : Option Charges → Result Charges GroundRefusal
    charged None = Err (NoPenalty task.problem.line)
    charged (Some charges) = Ok charges

    abbrev pub limited : Charges → Result (Unit {0}) LimitCode → Result Ground GroundRefusal
    limited charges (Ok _) = Ok (ground_problem task charges)
    limited charges (Err code) = Err (Limit code)

    abbrev pub grounded : Result Ground GroundRefusal
    grounded =
        refused_by free_action
        >>= λ _. charged (charges_of terms task)
        >>= λ charges. limited charges (limits charges)
