-- The laws of named variables: a form is the same under two bindings under which each variable that it
-- names stands for the same.
--     ConditionByNamed w n   a condition on packed states
--     ChoicesByNamed w n     the merged choices of an effect
--     WidestByNamed w n      the length of the longest merged list on the way to them
--     ChargedByNamed w n     the choices with the base cost in them
--     JointByNamed w n       the joint choices, in lowest terms
use Rattle.std.specs.Prelude.{◌≡◌, ℕ}
use Rattle.ppddl_model.specs.declared.tree.Condition.{Condition}
use Rattle.ppddl_model.specs.declared.tree.Effect.{Effect}
use Rattle.ppddl_model.specs.Objects.{World, Binding}
use Rattle.ground_meaning.specs.choices.Numbering.{Numbering, ground_condition}
use Rattle.ground_meaning.specs.choices.Joint.{choices, charged_choices, joint}
use Rattle.ground_meaning.specs.choices.Limits.{widest}
use Rattle.task_instances.specs.kept_rows.Stages.{names_variable}
use Rattle.task_instances.specs.variables.Named.{effect_names, StandAlike}

module _ (w : World) (n : Numbering) where
  abbrev pub ConditionByNamed : Type 0
  ConditionByNamed = (c : Condition) (b b' : Binding) → StandAlike (λ v. names_variable v c) b b'
      → ground_condition w n c b ≡ ground_condition w n c b'

  abbrev pub ChoicesByNamed : Type 0
  ChoicesByNamed = (e : Effect) (b b' : Binding) → StandAlike (λ v. effect_names v e) b b'
      → choices w n e b ≡ choices w n e b'

  abbrev pub WidestByNamed : Type 0
  WidestByNamed = (e : Effect) (b b' : Binding) → StandAlike (λ v. effect_names v e) b b'
      → widest w n e b ≡ widest w n e b'

  abbrev pub ChargedByNamed : Type 0
  ChargedByNamed = (e : Effect) (b b' : Binding) → StandAlike (λ v. effect_names v e) b b'
      → (base : ℕ) → charged_choices w n e b base ≡ charged_choices w n e b' base

  abbrev pub JointByNamed : Type 0
  JointByNamed = (e : Effect) (b b' : Binding) → StandAlike (λ v. effect_names v e) b b'
      → (base : ℕ) → joint w n e b base ≡ joint w n e b' base
