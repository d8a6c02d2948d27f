-- Terms, atoms and conditions that are read fit.
use Rattle.std.proofs.Common.{◌≡◌, Bool, true, false, ◌&&◌, List, [], ◌∷◌, ◌++◌, Option, Some, None, is_some, refl, ap, ◌∙◌}
use Rattle.std.specs.List.{list_all}
use Rattle.std.specs.Option.{option_map}
use Rattle.std.proofs.lemmas.Bool.{and_from}
use denote.Hole.Carrier.{hidden}
use Rattle.ppddl_model.specs.declared.tree.Atom.{Atom}
use Rattle.ppddl_model.specs.declared.tree.Condition.{Condition, Row_of-Condition, end_of-Condition, more_of-Condition, items-the_row-Condition, items_hidden-the_row-Condition-1}
use Rattle.ppddl_model.specs.declared.tree.Condition.TheBlock.{shape-the_row-Condition-0, hidden-the_row-Condition-0, hidden-the_row-Condition-1}
use Rattle.ppddl_model.specs.declared.tree.Condition.TheVariants as tree
use Rattle.ppddl_model.specs.declared.tree.Domain.{Domain}
use Rattle.ppddl_model.specs.declared.tree.Param.{Param}
use Rattle.ppddl_model.specs.declared.tree.PredicateDecl.{PredicateDecl}
use Rattle.ppddl_model.specs.declared.tree.Term.{Term}
use Rattle.ppddl_model.specs.Objects.{World}
use Rattle.ppddl_model.specs.State.{Name}
use Rattle.ppddl_model.specs.WellFormed.{params_fit, kinds_of, fits, args_fit, atom_fits, condition_fits, each_condition_fits}
use Rattle.ppddl_forms.specs.names.Declarations.{Declared, world_of, kinds_fit}
use Rattle.ppddl_forms.specs.names.Sight.{in_sight}
use Rattle.ppddl_forms.proofs.lemmas.names.Once.{kinds-once}
use Rattle.ppddl_cursor.specs.Forms.{Form, Forms}
use Rattle.ppddl_forms.specs.Terms.{Scope}
use Rattle.ppddl_form_grammar.specs.forms.Terms as term_by
use Rattle.ppddl_form_grammar.specs.forms.Terms.{IsTerm, Arguments, Application, IsAtom}
use Rattle.ppddl_form_grammar.specs.forms.Conditions as by
use Rattle.ppddl_form_grammar.specs.forms.Conditions.{IsCondition, Conditions}
use Rattle.ppddl_form_grammar.specs.forms.Lists.{IsVariableList}
use Rattle.ppddl_form_grammar.specs.fits.Growth.{domain_of}
use Rattle.ppddl_form_grammar.proofs.lemmas.fits.Variables.{list_fits}

-- ---- conditions that are made of others

module _ (w : World) (domain : Domain) where
  abbrev pub condition_test : List Param → Condition → Bool
  condition_test scope c = condition_fits w domain c scope

  conditions_row : {n : _} (row : Row_of-Condition n) (scope : List Param) → each_condition_fits w domain row scope ≡ list_all (condition_test scope) (items-the_row-Condition n row)
  conditions_row end_of-Condition scope = refl
  conditions_row (more_of-Condition c cs) scope = ap (λ b. condition_fits w domain c scope && b) (conditions_row cs scope)

  all_fits : (cs : List Condition) (scope : List Param) → condition_fits w domain (tree.All cs) scope ≡ list_all (condition_test scope) cs
  all_fits cs scope = conditions_row (hidden-the_row-Condition-1 cs) scope ∙ ap (list_all (condition_test scope)) (items_hidden-the_row-Condition-1 cs)

  any_fits : (cs : List Condition) (scope : List Param) → condition_fits w domain (tree.Any cs) scope ≡ list_all (condition_test scope) cs
  any_fits cs scope = conditions_row (hidden-the_row-Condition-1 cs) scope ∙ ap (list_all (condition_test scope)) (items_hidden-the_row-Condition-1 cs)

  not_fits : (c : Condition) (scope : List Param) → condition_fits w domain (tree.Not c) scope ≡ condition_fits w domain c scope
  unfolding shape-the_row-Condition-0 hidden-the_row-Condition-0 hidden
  not_fits c scope = refl

  imply_fits : (a c : Condition) (scope : List Param) → condition_fits w domain (tree.Imply a c) scope ≡ (condition_fits w domain a scope && condition_fits w domain c scope)
  unfolding shape-the_row-Condition-0 hidden-the_row-Condition-0 hidden
  imply_fits a c scope = refl

  exists_fits : (ps : List Param) (c : Condition) (scope : List Param)
      → condition_fits w domain (tree.Exists ps c) scope ≡ (params_fit w.types ps && condition_fits w domain c (ps ++ scope))
  unfolding shape-the_row-Condition-0 hidden-the_row-Condition-0 hidden
  exists_fits ps c scope = refl

  forall_fits : (ps : List Param) (c : Condition) (scope : List Param)
      → condition_fits w domain (tree.Forall ps c) scope ≡ (params_fit w.types ps && condition_fits w domain c (ps ++ scope))
  unfolding shape-the_row-Condition-0 hidden-the_row-Condition-0 hidden
  forall_fits ps c scope = refl

module _ (d : Declared) where
  -- ---- terms and atoms

  term_kinds : (s : Scope) (f : Form) (t : Term) (kinds : List Name) → IsTerm d s f t kinds → kinds_of (world_of d) (in_sight s) t ≡ Some kinds
  term_kinds s f t kinds (term_by.variable is sight) = sight
  term_kinds s f t kinds (term_by.object {w = o} is named) = kinds-once o d.objects ∙ ap (option_map (λ kind. kind ∷ [])) named

  abbrev FitOf : Param → Option (List Name) → Bool
  FitOf p r = elim r [ None ↦ false | Some kinds ↦ kinds_fit (world_of d) kinds p ]

  arguments_fit : (s : Scope) (fs : Forms) (ps : List Param) (ts : List Term) → Arguments d s fs ps ts → args_fit (world_of d) (in_sight s) ts ps ≡ true
  arguments_fit s fs ps ts term_by.no_argument = refl
  arguments_fit s fs ps ts (term_by.argument {f = f} {fs = gs} {p = p} {ps = qs} {t = t} {ts = us} {kinds = kinds} is fit others) =
      and_from (fits (world_of d) (in_sight s) t p) (args_fit (world_of d) (in_sight s) us qs)
      (ap (FitOf p) (term_kinds s f t kinds is) ∙ fit) (arguments_fit s gs qs us others)

  abbrev ArgsFit : Scope → List Term → Option PredicateDecl → Bool
  ArgsFit s ts r = elim r [ None ↦ false | Some q ↦ args_fit (world_of d) (in_sight s) ts q.params ]

  pub application_fits : (s : Scope) (ds : List PredicateDecl) (fs : Forms) (x : Atom) → Application d s ds fs x → atom_fits (world_of d) (in_sight s) ds x ≡ true
  application_fits s ds fs x (term_by.application {fs = gs} {p = p} {ts = ts} named at args) = ap (ArgsFit s ts) at ∙ arguments_fit s gs p.params ts args

  pub atom_fit : (s : Scope) (f : Form) (x : Atom) → IsAtom d s f x → atom_fits (world_of d) (in_sight s) d.predicates x ≡ true
  atom_fit s f x (term_by.atom {fs = fs} app) = application_fits s d.predicates fs x app

  -- ---- conditions

  abbrev FitsIn : Scope → Condition → Bool
  FitsIn s c = condition_fits (world_of d) (domain_of d) c (in_sight s)

  quantified_fits : (s : Scope) (f : Form) (ps : List Param) (x : Condition) → IsVariableList d f ps → FitsIn (ps ∷ s) x ≡ true → (params_fit d.types ps && FitsIn (ps ∷ s) x) ≡ true
  quantified_fits s f ps x list inner = and_from (params_fit d.types ps) (FitsIn (ps ∷ s) x) (list_fits d f ps list) inner

  mutual
    pub condition_fit : (s : Scope) (f : Form) (c : Condition) → IsCondition d s f c → FitsIn s c ≡ true
    condition_fit s f c by.truth = all_fits (world_of d) (domain_of d) [] (in_sight s)
    condition_fit s f c (by.atomic {x = x} is) = atom_fit s f x is
    condition_fit s f c (by.equality {f = g} {g = h} {x = x} {y = y} {kinds = kinds} {others = others} first second) =
        and_from (is_some (kinds_of (world_of d) (in_sight s) x)) (is_some (kinds_of (world_of d) (in_sight s) y))
        (ap is_some (term_kinds s g x kinds first)) (ap is_some (term_kinds s h y others second))
    condition_fit s f c (by.negation {f = g} {x = x} is) = not_fits (world_of d) (domain_of d) x (in_sight s) ∙ condition_fit s g x is
    condition_fit s f c (by.conjunction {fs = gs} {xs = xs} parts) = all_fits (world_of d) (domain_of d) xs (in_sight s) ∙ conditions_fit s gs xs parts
    condition_fit s f c (by.disjunction {fs = gs} {xs = xs} parts) = any_fits (world_of d) (domain_of d) xs (in_sight s) ∙ conditions_fit s gs xs parts
    condition_fit s f c (by.implication {f = g} {g = h} {x = x} {y = y} first second) =
        imply_fits (world_of d) (domain_of d) x y (in_sight s) ∙ and_from (FitsIn s x) (FitsIn s y) (condition_fit s g x first) (condition_fit s h y second)
    condition_fit s f c (by.existence {f = g} {g = h} {ps = ps} {x = x} list inner) =
        exists_fits (world_of d) (domain_of d) ps x (in_sight s) ∙ quantified_fits s g ps x list (condition_fit (ps ∷ s) h x inner)
    condition_fit s f c (by.universality {f = g} {g = h} {ps = ps} {x = x} list inner) =
        forall_fits (world_of d) (domain_of d) ps x (in_sight s) ∙ quantified_fits s g ps x list (condition_fit (ps ∷ s) h x inner)

    conditions_fit : (s : Scope) (fs : Forms) (cs : List Condition) → Conditions d s fs cs → list_all (condition_test (world_of d) (domain_of d) (in_sight s)) cs ≡ true
    conditions_fit s fs cs by.no_condition = refl
    conditions_fit s fs cs (by.one_more {f = f} {fs = gs} {x = x} {xs = xs} is others) =
        and_from (FitsIn s x) (list_all (condition_test (world_of d) (domain_of d) (in_sight s)) xs) (condition_fit s f x is) (conditions_fit s gs xs others)
