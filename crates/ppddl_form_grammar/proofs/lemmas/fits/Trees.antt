-- Conditions and effects where more is declared.
use Rattle.std.proofs.Common.{◌≡◌, true, List, ◌++◌, refl}
use Rattle.std.proofs.lemmas.Bool.{and_parts, and_from}
use Rattle.ppddl_model.specs.declared.tree.Atom.{Atom}
use Rattle.ppddl_model.specs.declared.tree.Condition.{Condition, Row_of-Condition, end_of-Condition, more_of-Condition}
use Rattle.ppddl_model.specs.declared.tree.Condition.TheVariants as condition
use Rattle.ppddl_model.specs.declared.tree.Domain.{Domain}
use Rattle.ppddl_model.specs.declared.tree.Effect.{Effect, Row_of-Effect, end_of-Effect, more_of-Effect, Row_of-Branch, end_of-Branch, more_of-Branch}
use Rattle.ppddl_model.specs.declared.tree.Effect.TheVariants as effect
use Rattle.ppddl_model.specs.declared.tree.Param.{Param}
use Rattle.ppddl_model.specs.Objects.{World}
use Rattle.ppddl_model.specs.WellFormed.{params_fit, kinds_of, atom_fits, condition_fits, each_condition_fits, effect_fits, each_effect_fits, each_branch_fits}
use Rattle.std.specs.Prelude.{is_some}
use Rattle.ppddl_form_grammar.proofs.lemmas.fits.Atoms.{IsLater, params_fit-grows, in_sight-grows, atom_fits-grows}

module _ (w v : World) (domain other : Domain) (later : IsLater w v domain other) where
  atom-grows : (a : Atom) (scope : List Param) → atom_fits w scope domain.predicates a ≡ true → atom_fits v scope other.predicates a ≡ true
  atom-grows a scope = atom_fits-grows w v domain other later domain.predicates other.predicates later.predicates scope a

  function-grows : (a : Atom) (scope : List Param) → atom_fits w scope domain.functions a ≡ true → atom_fits v scope other.functions a ≡ true
  function-grows a scope = atom_fits-grows w v domain other later domain.functions other.functions later.functions scope a

  list-grows : (ps : List Param) → params_fit w.types ps ≡ true → params_fit v.types ps ≡ true
  list-grows = params_fit-grows w.types v.types later.types

  mutual
    pub condition-grows : (c : Condition) (scope : List Param) → condition_fits w domain c scope ≡ true → condition_fits v other c scope ≡ true
    condition-grows (condition.Atom a) scope fit = atom-grows a scope fit
    condition-grows (condition.Equal x y) scope fit =
        let parts = and_parts (is_some (kinds_of w scope x)) (is_some (kinds_of w scope y)) fit in
        and_from (is_some (kinds_of v scope x)) (is_some (kinds_of v scope y))
        (in_sight-grows w v domain other later scope x parts.0) (in_sight-grows w v domain other later scope y parts.1)
    condition-grows (condition.Not' u (more_of-Condition c end_of-Condition)) scope fit = condition-grows c scope fit
    condition-grows (condition.All' shape cs) scope fit = conditions-grow cs scope fit
    condition-grows (condition.Any' shape cs) scope fit = conditions-grow cs scope fit
    condition-grows (condition.Imply' u (more_of-Condition a end_of-Condition) t (more_of-Condition c end_of-Condition)) scope fit =
        let parts = and_parts (condition_fits w domain a scope) (condition_fits w domain c scope) fit in
        and_from (condition_fits v other a scope) (condition_fits v other c scope) (condition-grows a scope parts.0) (condition-grows c scope parts.1)
    condition-grows (condition.Exists' params u (more_of-Condition c end_of-Condition)) scope fit =
        let parts = and_parts (params_fit w.types params) (condition_fits w domain c (params ++ scope)) fit in
        and_from (params_fit v.types params) (condition_fits v other c (params ++ scope)) (list-grows params parts.0) (condition-grows c (params ++ scope) parts.1)
    condition-grows (condition.Forall' params u (more_of-Condition c end_of-Condition)) scope fit =
        let parts = and_parts (params_fit w.types params) (condition_fits w domain c (params ++ scope)) fit in
        and_from (params_fit v.types params) (condition_fits v other c (params ++ scope)) (list-grows params parts.0) (condition-grows c (params ++ scope) parts.1)

    conditions-grow : {n : _} (cs : Row_of-Condition n) (scope : List Param) → each_condition_fits w domain cs scope ≡ true → each_condition_fits v other cs scope ≡ true
    conditions-grow end_of-Condition scope fit = refl
    conditions-grow (more_of-Condition c cs) scope fit =
        let parts = and_parts (condition_fits w domain c scope) (each_condition_fits w domain cs scope) fit in
        and_from (condition_fits v other c scope) (each_condition_fits v other cs scope) (condition-grows c scope parts.0) (conditions-grow cs scope parts.1)

  mutual
    pub effect-grows : (e : Effect) (scope : List Param) → effect_fits w domain e scope ≡ true → effect_fits v other e scope ≡ true
    effect-grows (effect.Add a) scope fit = atom-grows a scope fit
    effect-grows (effect.Delete a) scope fit = atom-grows a scope fit
    effect-grows (effect.Both' shape es) scope fit = effects-grow es scope fit
    effect-grows (effect.Forall' params u (more_of-Effect e end_of-Effect)) scope fit =
        let parts = and_parts (params_fit w.types params) (effect_fits w domain e (params ++ scope)) fit in
        and_from (params_fit v.types params) (effect_fits v other e (params ++ scope)) (list-grows params parts.0) (effect-grows e (params ++ scope) parts.1)
    effect-grows (effect.When' c u (more_of-Effect e end_of-Effect)) scope fit =
        let parts = and_parts (condition_fits w domain c scope) (effect_fits w domain e scope) fit in
        and_from (condition_fits v other c scope) (effect_fits v other e scope) (condition-grows c scope parts.0) (effect-grows e scope parts.1)
    effect-grows (effect.Chance' shape branches) scope fit = branches-grow branches scope fit
    effect-grows (effect.Cost n) scope fit = fit
    effect-grows (effect.CostOf a) scope fit = function-grows a scope fit

    effects-grow : {n : _} (es : Row_of-Effect n) (scope : List Param) → each_effect_fits w domain es scope ≡ true → each_effect_fits v other es scope ≡ true
    effects-grow end_of-Effect scope fit = refl
    effects-grow (more_of-Effect e es) scope fit =
        let parts = and_parts (effect_fits w domain e scope) (each_effect_fits w domain es scope) fit in
        and_from (effect_fits v other e scope) (each_effect_fits v other es scope) (effect-grows e scope parts.0) (effects-grow es scope parts.1)

    branches-grow : {n : _} (bs : Row_of-Branch n) (scope : List Param) → each_branch_fits w domain bs scope ≡ true → each_branch_fits v other bs scope ≡ true
    branches-grow end_of-Branch scope fit = refl
    branches-grow (more_of-Branch chance e bs) scope fit =
        let parts = and_parts (effect_fits w domain e scope) (each_branch_fits w domain bs scope) fit in
        and_from (effect_fits v other e scope) (each_branch_fits v other bs scope) (effect-grows e scope parts.0) (branches-grow bs scope parts.1)
