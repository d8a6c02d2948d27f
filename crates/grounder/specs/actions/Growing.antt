-- Ground actions that are put one behind another within the limits.
--     sized_actions list size           ground actions with the ground size so far
--     no_actions tested                 none, where the tried preconditions have this size
--     room_for g effect                 one action more is within the limit, and an effect of this size counted once
--     with_ground_action g a effect     the actions with one more, whose effect counts once for each choice
--     kept_instances_of task a          the kept instances of an action, in order
--     action_with task base i           an instance as a ground action, with this base cost in its choices
--     action_or_limit task base i       it, or the first limit on its choices
--     with_instances task base g is     the actions with those of these instances, or the first limit
--     IsAnswerOf result answer          the result is the answer, or want of memory
use Rattle.std.specs.Prelude.{◌≡◌, ℕ, ◌+◌, ◌*◌, not, List, [], ◌∷◌, ◌++◌, map, filter, length, Result, Ok, Err}
use Rattle.std.specs.List.{list_any}
use Rattle.plain_list.specs.Results.{◌>>=◌}
use Rattle.ppddl_model.specs.declared.tree.Action.{Action}
use Rattle.ppddl_model.specs.declared.tree.Task.{Task}
use Rattle.ppddl_model.specs.Objects.{bindings}
use Rattle.ppddl_model.specs.Changing.{is_kept}
use Rattle.ppddl_model.specs.Steps.{Instance, instance_name, world}
use Rattle.ground_model.specs.declared.action.GroundAction.{GroundAction}
use Rattle.ground_meaning.specs.choices.Numbering.{ground_condition}
use Rattle.ground_meaning.specs.choices.Joint.{Joint, joint, charged_choices}
use Rattle.ground_meaning.specs.choices.Limits.{widest, is_dear, effect_size}
use Rattle.ground_meaning.specs.declared.refusals.limits.LimitCode.{LimitCode}
use Rattle.ground_meaning.specs.declared.refusals.limits.LimitCode.TheVariants.{Actions, Choices, GroundSize, OutcomeCost}
use Rattle.ground_meaning.specs.declared.refusals.refusal.GroundRefusal.{GroundRefusal}
use Rattle.ground_meaning.specs.declared.refusals.refusal.GroundRefusal.TheVariants.{Limit, Memory}
use Rattle.ground_meaning.specs.refusals.Atoms.{numbering_of}
use Rattle.ground_meaning.specs.refusals.Limits.{checked, within}
use Rattle.grounder.specs.declared.actions.GroundActions.{GroundActions}

abbrev pub sized_actions : List GroundAction → ℕ → GroundActions
sized_actions list size = record { list = list; size = size }

abbrev pub no_actions : ℕ → GroundActions
no_actions tested = sized_actions [] tested

abbrev pub room_for : GroundActions → ℕ → Result (Unit {0}) LimitCode
room_for g effect = within (length g.list + 1) Actions >>= λ _. within (g.size + effect) GroundSize

abbrev pub with_ground_action : GroundActions → GroundAction → ℕ → Result GroundActions LimitCode
with_ground_action g a effect =
    within (g.size + length a.choices * effect) GroundSize
    >>= λ _. Ok (sized_actions (g.list ++ a ∷ []) (g.size + length a.choices * effect))

module _ (task : Task) where
  abbrev pub kept_instances_of : Action → List Instance
  kept_instances_of a = filter (is_kept task) (map (λ b. record { action = a; binding = b }) (bindings (world task) a.params []))

  module _ (base : ℕ) where
    abbrev pub joint_with : Instance → Joint
    joint_with i = joint (world task) (numbering_of task) i.action.effect i.binding base

    abbrev pub action_with : Instance → GroundAction
    action_with i = record {
      name = instance_name i;
      condition = ground_condition (world task) (numbering_of task) i.action.condition i.binding;
      choices = (joint_with i).list;
      den = (joint_with i).den;
    }

    abbrev pub action_or_limit : Instance → Result GroundAction LimitCode
    action_or_limit i =
        within (widest (world task) (numbering_of task) i.action.effect i.binding) Choices
        >>= λ _. checked (not (list_any is_dear (charged_choices (world task) (numbering_of task) i.action.effect i.binding base))) OutcomeCost
        >>= λ _. Ok (action_with i)

    abbrev pub with_instances : GroundActions → List Instance → Result GroundActions LimitCode
    with_instances g [] = Ok g
    with_instances g (i ∷ more) =
        room_for g (effect_size (world task) i.action.effect)
        >>= λ _. action_or_limit i
        >>= λ a. with_ground_action g a (effect_size (world task) i.action.effect)
        >>= λ next. with_instances next more

abbrev pub IsAnswerOf : {X : Type 0} → Result X GroundRefusal → Result X LimitCode → Type 0
IsAnswerOf (Ok x) answer = answer ≡ Ok x
IsAnswerOf (Err (Limit code)) answer = answer ≡ Err code
IsAnswerOf (Err Memory) answer = Unit {0}
IsAnswerOf (Err _) answer = ⊥
