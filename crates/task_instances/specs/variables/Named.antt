-- Which variables the forms of an action name, whatever binds them there.
--     effect_names v e        whether a variable stands in a literal, a function term or a condition of an effect
--     action_names v a        whether it stands in the precondition or in the effect of an action
--     named_parameters a      whether so does each parameter of an action, in order
--     StandAlike named b b'   each variable that is named stands for the same under both bindings
use Rattle.std.specs.Prelude.{◌≡◌, Bool, true, false, ◌||◌, List, map}
use Rattle.std.specs.List.{list_any}
use Rattle.ppddl_model.specs.declared.tree.Action.{Action}
use Rattle.ppddl_model.specs.declared.tree.Effect.{Effect, Row_of-Effect, end_of-Effect}
use Rattle.ppddl_model.specs.declared.tree.Effect.{more_of-Effect, Row_of-Branch, end_of-Branch}
use Rattle.ppddl_model.specs.declared.tree.Effect.{more_of-Branch}
use Rattle.ppddl_model.specs.declared.tree.Effect.TheVariants.{Add, Delete, Both', Forall', When'}
use Rattle.ppddl_model.specs.declared.tree.Effect.TheVariants.{Chance', CostOf}
use Rattle.ppddl_model.specs.declared.tree.Param.{Param}
use Rattle.ppddl_model.specs.State.{Name}
use Rattle.ppddl_model.specs.Objects.{Binding, bound}
use Rattle.task_instances.specs.kept_rows.Stages.{is_variable, names_variable}

abbrev mutual
  pub effect_names : Name → Effect → Bool
  effect_names v (Add a) = list_any (is_variable v) a.args
  effect_names v (Delete a) = list_any (is_variable v) a.args
  effect_names v (Both' shape es) = each_effect_names v es
  effect_names v (Forall' params u (more_of-Effect e end_of-Effect)) = effect_names v e
  effect_names v (When' c u (more_of-Effect e end_of-Effect)) =
      names_variable v c || effect_names v e
  effect_names v (Chance' shape branches) = branches_name v branches
  effect_names v (CostOf a) = list_any (is_variable v) a.args
  effect_names v _ = false

  pub each_effect_names : {m : _} → Name → Row_of-Effect m → Bool
  each_effect_names v end_of-Effect = false
  each_effect_names v (more_of-Effect e es) = effect_names v e || each_effect_names v es

  pub branches_name : {m : _} → Name → Row_of-Branch m → Bool
  branches_name v end_of-Branch = false
  branches_name v (more_of-Branch chance e branches) = effect_names v e || branches_name v branches

abbrev pub action_names : Name → Action → Bool
action_names v a = names_variable v a.condition || effect_names v a.effect

abbrev pub named_parameters : Action → List Bool
named_parameters a = map (λ (p : Param). action_names p.name a) a.params

abbrev pub StandAlike : (Name → Bool) → Binding → Binding → Type 0
StandAlike named b b' = (v : Name) → named v ≡ true → bound b v ≡ bound b' v
