-- Where a variable stands in effects that are built from their parts.
use Rattle.std.proofs.Common.{◌≡◌, ◌||◌, List, refl, sym, ap, ◌∙◌}
use Rattle.std.specs.List.{list_any}
use denote.Hole.Carrier.{hidden}
use Rattle.ppddl_model.specs.declared.tree.Branch.{Branch}
use Rattle.ppddl_model.specs.declared.tree.Condition.{Condition}
use Rattle.ppddl_model.specs.declared.tree.Effect.{Effect, Row_of-Effect, end_of-Effect, more_of-Effect, items-the_row-Effect, items_hidden-the_row-Effect-0}
use Rattle.ppddl_model.specs.declared.tree.Effect.{Row_of-Branch, end_of-Branch, more_of-Branch, items-the_row-Branch, items_hidden-the_row-Branch-2}
use Rattle.ppddl_model.specs.declared.tree.Effect.TheBlock.{hidden-the_row-Effect-0, hidden-the_row-Effect-1, hidden-the_row-Branch-2}
use Rattle.ppddl_model.specs.declared.tree.Effect.TheVariants as effect
use Rattle.ppddl_model.specs.declared.tree.Param.{Param}
use Rattle.ppddl_model.specs.State.{Name}
use Rattle.task_instances.specs.kept_rows.Stages.{names_variable}
use Rattle.task_instances.specs.variables.Named.{effect_names, each_effect_names, branches_name}

module _ (v : Name) where
  effects_row : {n : _} (row : Row_of-Effect n) → each_effect_names v row ≡ list_any (effect_names v) (items-the_row-Effect n row)
  effects_row end_of-Effect = refl
  effects_row (more_of-Effect e es) = ap (λ t. effect_names v e || t) (effects_row es)

  branches_row : {n : _} (row : Row_of-Branch n)
      → branches_name v row ≡ list_any (λ (x : Branch). effect_names v x.effect) (items-the_row-Branch n row)
  branches_row end_of-Branch = refl
  branches_row (more_of-Branch chance e branches) = ap (λ t. effect_names v e || t) (branches_row branches)

  pub effect-Both : (es : List Effect) → list_any (effect_names v) es ≡ effect_names v (effect.Both es)
  effect-Both es = sym (effects_row (hidden-the_row-Effect-0 es) ∙ ap (list_any (effect_names v)) (items_hidden-the_row-Effect-0 es))

  pub effect-Chance : (branches : List Branch) → list_any (λ (x : Branch). effect_names v x.effect) branches ≡ effect_names v (effect.Chance branches)
  effect-Chance branches =
      sym (branches_row (hidden-the_row-Branch-2 branches) ∙ ap (list_any (λ (x : Branch). effect_names v x.effect)) (items_hidden-the_row-Branch-2 branches))

  pub effect-Forall : (ps : List Param) (e : Effect) → effect_names v e ≡ effect_names v (effect.Forall ps e)
  unfolding hidden-the_row-Effect-1 hidden
  effect-Forall ps e = refl

  pub effect-When : (c : Condition) (e : Effect) → (names_variable v c || effect_names v e) ≡ effect_names v (effect.When c e)
  unfolding hidden-the_row-Effect-1 hidden
  effect-When c e = refl
