-- Conditions and effects that fit fit where more variables are in sight behind those that are.
use Rattle.std.proofs.Common.{◌≡◌, Bool, true, false, List, [], ◌∷◌, ◌++◌, Option, Some, None, is_some, refl, ap, subst, ◌∙◌, append_assoc}
use Rattle.std.specs.List.{find, list_any, list_all}
use Rattle.std.specs.Option.{option_map, option_or}
use Rattle.std.proofs.lemmas.Bool.{and_parts, and_from}
use Rattle.std.proofs.lemmas.List.Folds.{find-append}
use Rattle.ppddl_model.specs.declared.tree.Atom.{Atom}
use Rattle.ppddl_model.specs.declared.tree.Condition.{Condition, Row_of-Condition, end_of-Condition, more_of-Condition}
use Rattle.ppddl_model.specs.declared.tree.Condition.TheVariants as condition
use Rattle.ppddl_model.specs.declared.tree.Domain.{Domain}
use Rattle.ppddl_model.specs.declared.tree.Effect.{Effect, Row_of-Effect, end_of-Effect, more_of-Effect, Row_of-Branch, end_of-Branch, more_of-Branch}
use Rattle.ppddl_model.specs.declared.tree.Effect.TheVariants as effect
use Rattle.ppddl_model.specs.declared.tree.Param.{Param}
use Rattle.ppddl_model.specs.declared.tree.PredicateDecl.{PredicateDecl}
use Rattle.ppddl_model.specs.declared.tree.Term.{Term}
use Rattle.ppddl_model.specs.declared.tree.Term.TheVariants.{Variable, Object}
use Rattle.ppddl_model.specs.Objects.{World, is_under}
use Rattle.ppddl_model.specs.State.{Name, same_name}
use Rattle.ppddl_model.specs.WellFormed.{params_fit, kinds_of, fits, args_fit, atom_fits, condition_fits, each_condition_fits, effect_fits, each_effect_fits, each_branch_fits}
use Rattle.ppddl_form_grammar.proofs.lemmas.fits.Atoms.{some_of}

module _ (w : World) where
  first_of : (r s : Option Param) (kinds : List Name) → option_map (λ (p : Param). p.kinds) r ≡ Some kinds → option_map (λ (p : Param). p.kinds) (option_or r s) ≡ Some kinds
  first_of None s kinds is = absurd cc
  first_of (Some p) s kinds is = is

  kinds-wider : (scope more : List Param) (t : Term) (kinds : List Name) → kinds_of w scope t ≡ Some kinds → kinds_of w (scope ++ more) t ≡ Some kinds
  kinds-wider scope more (Variable v) kinds is =
      let named : Param → Bool = λ (p : Param). same_name p.name v in
      ap (option_map (λ (p : Param). p.kinds)) (find-append named scope more) ∙ first_of (find named scope) (find named more) kinds is
  kinds-wider scope more (Object o) kinds is = is

  abbrev FitOf : Option (List Name) → Param → Bool
  FitOf r p = elim r [ None ↦ false | Some kinds ↦ list_all (λ kind. list_any (is_under w kind) p.kinds) kinds ]

  fits_from : (scope more : List Param) (t : Term) (p : Param) (r : Option (List Name)) → kinds_of w scope t ≡ r → FitOf r p ≡ true → fits w (scope ++ more) t p ≡ true
  fits_from scope more t p None is fit = absurd cc
  fits_from scope more t p (Some kinds) is fit = ap (λ r. FitOf r p) (kinds-wider scope more t kinds is) ∙ fit

  args-wider : (scope more : List Param) (ts : List Term) (ps : List Param) → args_fit w scope ts ps ≡ true → args_fit w (scope ++ more) ts ps ≡ true
  args-wider scope more [] [] fit = refl
  args-wider scope more [] (p ∷ ps) fit = absurd cc
  args-wider scope more (t ∷ ts) [] fit = absurd cc
  args-wider scope more (t ∷ ts) (p ∷ ps) fit =
      let parts = and_parts (fits w scope t p) (args_fit w scope ts ps) fit in
      and_from (fits w (scope ++ more) t p) (args_fit w (scope ++ more) ts ps)
      (fits_from scope more t p (kinds_of w scope t) refl parts.0) (args-wider scope more ts ps parts.1)

  args_from : (scope more : List Param) (a : Atom) (r : Option PredicateDecl)
      → elim r [ None ↦ false | Some d ↦ args_fit w scope a.args d.params ] ≡ true → elim r [ None ↦ false | Some d ↦ args_fit w (scope ++ more) a.args d.params ] ≡ true
  args_from scope more a None fit = absurd cc
  args_from scope more a (Some p) fit = args-wider scope more a.args p.params fit

  atom-wider : (ds : List PredicateDecl) (a : Atom) (scope more : List Param) → atom_fits w scope ds a ≡ true → atom_fits w (scope ++ more) ds a ≡ true
  atom-wider ds a scope more fit = args_from scope more a (find (λ (d : PredicateDecl). same_name d.name a.predicate) ds) fit

  sight-wider : (scope more : List Param) (t : Term) → is_some (kinds_of w scope t) ≡ true → is_some (kinds_of w (scope ++ more) t) ≡ true
  sight-wider scope more t sight = let r = some_of (kinds_of w scope t) sight in ap is_some (kinds-wider scope more t r.0 r.1)

  module _ (d : Domain) where
    mutual
      pub condition-wider : (c : Condition) (scope more : List Param) → condition_fits w d c scope ≡ true → condition_fits w d c (scope ++ more) ≡ true
      condition-wider (condition.Atom a) scope more fit = atom-wider d.predicates a scope more fit
      condition-wider (condition.Equal x y) scope more fit =
          let parts = and_parts (is_some (kinds_of w scope x)) (is_some (kinds_of w scope y)) fit in
          and_from (is_some (kinds_of w (scope ++ more) x)) (is_some (kinds_of w (scope ++ more) y)) (sight-wider scope more x parts.0) (sight-wider scope more y parts.1)
      condition-wider (condition.Not' u (more_of-Condition c end_of-Condition)) scope more fit = condition-wider c scope more fit
      condition-wider (condition.All' shape cs) scope more fit = conditions-wider cs scope more fit
      condition-wider (condition.Any' shape cs) scope more fit = conditions-wider cs scope more fit
      condition-wider (condition.Imply' u (more_of-Condition a end_of-Condition) v (more_of-Condition c end_of-Condition)) scope more fit =
          let parts = and_parts (condition_fits w d a scope) (condition_fits w d c scope) fit in
          and_from (condition_fits w d a (scope ++ more)) (condition_fits w d c (scope ++ more)) (condition-wider a scope more parts.0) (condition-wider c scope more parts.1)
      condition-wider (condition.Exists' params u (more_of-Condition c end_of-Condition)) scope more fit =
          let parts = and_parts (params_fit w.types params) (condition_fits w d c (params ++ scope)) fit in
          and_from (params_fit w.types params) (condition_fits w d c (params ++ (scope ++ more))) parts.0
          (subst (λ l. condition_fits w d c l ≡ true) (append_assoc params scope more) (condition-wider c (params ++ scope) more parts.1))
      condition-wider (condition.Forall' params u (more_of-Condition c end_of-Condition)) scope more fit =
          let parts = and_parts (params_fit w.types params) (condition_fits w d c (params ++ scope)) fit in
          and_from (params_fit w.types params) (condition_fits w d c (params ++ (scope ++ more))) parts.0
          (subst (λ l. condition_fits w d c l ≡ true) (append_assoc params scope more) (condition-wider c (params ++ scope) more parts.1))

      conditions-wider : {n : _} (cs : Row_of-Condition n) (scope more : List Param) → each_condition_fits w d cs scope ≡ true → each_condition_fits w d cs (scope ++ more) ≡ true
      conditions-wider end_of-Condition scope more fit = refl
      conditions-wider (more_of-Condition c cs) scope more fit =
          let parts = and_parts (condition_fits w d c scope) (each_condition_fits w d cs scope) fit in
          and_from (condition_fits w d c (scope ++ more)) (each_condition_fits w d cs (scope ++ more)) (condition-wider c scope more parts.0) (conditions-wider cs scope more parts.1)

    mutual
      pub effect-wider : (e : Effect) (scope more : List Param) → effect_fits w d e scope ≡ true → effect_fits w d e (scope ++ more) ≡ true
      effect-wider (effect.Add a) scope more fit = atom-wider d.predicates a scope more fit
      effect-wider (effect.Delete a) scope more fit = atom-wider d.predicates a scope more fit
      effect-wider (effect.Both' shape es) scope more fit = effects-wider es scope more fit
      effect-wider (effect.Forall' params u (more_of-Effect e end_of-Effect)) scope more fit =
          let parts = and_parts (params_fit w.types params) (effect_fits w d e (params ++ scope)) fit in
          and_from (params_fit w.types params) (effect_fits w d e (params ++ (scope ++ more))) parts.0
          (subst (λ l. effect_fits w d e l ≡ true) (append_assoc params scope more) (effect-wider e (params ++ scope) more parts.1))
      effect-wider (effect.When' c u (more_of-Effect e end_of-Effect)) scope more fit =
          let parts = and_parts (condition_fits w d c scope) (effect_fits w d e scope) fit in
          and_from (condition_fits w d c (scope ++ more)) (effect_fits w d e (scope ++ more)) (condition-wider c scope more parts.0) (effect-wider e scope more parts.1)
      effect-wider (effect.Chance' shape branches) scope more fit = branches-wider branches scope more fit
      effect-wider (effect.Cost n) scope more fit = fit
      effect-wider (effect.CostOf a) scope more fit = atom-wider d.functions a scope more fit

      effects-wider : {n : _} (es : Row_of-Effect n) (scope more : List Param) → each_effect_fits w d es scope ≡ true → each_effect_fits w d es (scope ++ more) ≡ true
      effects-wider end_of-Effect scope more fit = refl
      effects-wider (more_of-Effect e es) scope more fit =
          let parts = and_parts (effect_fits w d e scope) (each_effect_fits w d es scope) fit in
          and_from (effect_fits w d e (scope ++ more)) (each_effect_fits w d es (scope ++ more)) (effect-wider e scope more parts.0) (effects-wider es scope more parts.1)

      branches-wider : {n : _} (bs : Row_of-Branch n) (scope more : List Param) → each_branch_fits w d bs scope ≡ true → each_branch_fits w d bs (scope ++ more) ≡ true
      branches-wider end_of-Branch scope more fit = refl
      branches-wider (more_of-Branch chance e bs) scope more fit =
          let parts = and_parts (effect_fits w d e scope) (each_branch_fits w d bs scope) fit in
          and_from (effect_fits w d e (scope ++ more)) (each_branch_fits w d bs (scope ++ more)) (effect-wider e scope more parts.0) (branches-wider bs scope more parts.1)
