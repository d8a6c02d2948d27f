-- Effects that are read fit, and draw by probabilities.
use Rattle.std.proofs.Common.{◌≡◌, ℕ, Bool, true, ◌&&◌, List, [], ◌∷◌, ◌++◌, flat_map, nat_le, nat_lt, Option, Some, None, Ok, All, refl, sym, ap, subst, ◌∙◌}
use Rattle.std.specs.List.{list_all}
use Rattle.std.proofs.lemmas.Bool.{and_from, ltb-false, le-leb}
use Rattle.std.proofs.lemmas.List.Elements.{All-nil, All-cons, All-append}
use denote.Hole.Carrier.{hidden}
use Rattle.plain_list.proofs.Results.{ok_is, test_fails}
use Rattle.exact_fraction.specs.declared.fraction.Fraction.{Fraction}
use Rattle.exact_fraction.specs.declared.refusal.NumberRefusal.{NumberRefusal}
use Rattle.exact_fraction.specs.Numbers.{Ratio, micro_units, decimal_of, amount_from, amount_of}
use Rattle.ppddl_model.specs.declared.limits.TheConstants.{MOST_COST}
use Rattle.ppddl_model.specs.declared.tree.Atom.{Atom}
use Rattle.ppddl_model.specs.declared.tree.Branch.{Branch}
use Rattle.ppddl_model.specs.declared.tree.Condition.{Condition}
use Rattle.ppddl_model.specs.declared.tree.Domain.{Domain}
use Rattle.ppddl_model.specs.declared.tree.Effect.{Effect, Row_of-Effect, end_of-Effect, more_of-Effect, items-the_row-Effect, items_hidden-the_row-Effect-0}
use Rattle.ppddl_model.specs.declared.tree.Effect.{Row_of-Branch, end_of-Branch, more_of-Branch, items-the_row-Branch, items_hidden-the_row-Branch-2}
use Rattle.ppddl_model.specs.declared.tree.Effect.TheBlock.{hidden-the_row-Effect-0, hidden-the_row-Effect-1, hidden-the_row-Branch-2}
use Rattle.ppddl_model.specs.declared.tree.Effect.TheVariants as tree
use Rattle.ppddl_model.specs.declared.tree.Param.{Param}
use Rattle.ppddl_model.specs.Draws.{branch_chances, chance_lists, lists_each, lists_branches}
use Rattle.ppddl_model.specs.Objects.{World}
use Rattle.ppddl_model.specs.WellFormed.{params_fit, atom_fits, condition_fits, effect_fits, each_effect_fits, each_branch_fits, AreProbabilities}
use Rattle.ppddl_forms.specs.names.Declarations.{Declared, world_of}
use Rattle.ppddl_forms.specs.names.Sight.{in_sight}
use Rattle.ppddl_cursor.specs.Forms.{Form, Forms, lone, none, more}
use Rattle.ppddl_forms.specs.Effects.{chances_of}
use Rattle.ppddl_forms.specs.Terms.{Scope}
use Rattle.ppddl_form_grammar.specs.forms.Terms as term_by
use Rattle.ppddl_form_grammar.specs.forms.Terms.{IsFunction}
use Rattle.ppddl_form_grammar.specs.forms.Effects as by
use Rattle.ppddl_form_grammar.specs.forms.Effects.{IsCost, IsEffect, Effects, Branches}
use Rattle.ppddl_form_grammar.specs.fits.Growth.{domain_of}
use Rattle.ppddl_form_grammar.proofs.lemmas.fits.Variables.{list_fits}
use Rattle.ppddl_form_grammar.proofs.lemmas.fits.Conditions.{application_fits, atom_fit, condition_fit}

-- ---- amounts

amount_within_from : (o : Option Ratio) (most n : ℕ) → amount_from most o ≡ Ok n → nat_le n most ≡ true
amount_within_from None most n is = absurd cc
amount_within_from (Some r) most n is =
    let digits = test_fails (nat_lt 1000000 r.den) _ _ n is in
    let range = test_fails (nat_lt most (micro_units r)) _ (Ok (micro_units r)) n digits.1 in
    let e : micro_units r ≡ n = ok_is {E = NumberRefusal} (micro_units r) n range.1 in
    subst (λ k. nat_le k most ≡ true) e (le-leb (micro_units r) most (ltb-false most (micro_units r) range.0))

pub amount_within : (w : List ℕ) (most n : ℕ) → amount_of w most ≡ Ok n → nat_le n most ≡ true
amount_within w = amount_within_from (decimal_of w)

-- ---- effects that are made of others

module _ (w : World) (domain : Domain) where
  abbrev pub effect_test : List Param → Effect → Bool
  effect_test scope e = effect_fits w domain e scope

  abbrev pub branch_test : List Param → Branch → Bool
  branch_test scope b = effect_fits w domain b.effect scope

  effects_row : {n : _} (row : Row_of-Effect n) (scope : List Param) → each_effect_fits w domain row scope ≡ list_all (effect_test scope) (items-the_row-Effect n row)
  effects_row end_of-Effect scope = refl
  effects_row (more_of-Effect e es) scope = ap (λ b. effect_fits w domain e scope && b) (effects_row es scope)

  branches_row : {n : _} (row : Row_of-Branch n) (scope : List Param) → each_branch_fits w domain row scope ≡ list_all (branch_test scope) (items-the_row-Branch n row)
  branches_row end_of-Branch scope = refl
  branches_row (more_of-Branch chance e bs) scope = ap (λ b. effect_fits w domain e scope && b) (branches_row bs scope)

  both_fits : (es : List Effect) (scope : List Param) → effect_fits w domain (tree.Both es) scope ≡ list_all (effect_test scope) es
  both_fits es scope = effects_row (hidden-the_row-Effect-0 es) scope ∙ ap (list_all (effect_test scope)) (items_hidden-the_row-Effect-0 es)

  chance_fits : (bs : List Branch) (scope : List Param) → effect_fits w domain (tree.Chance bs) scope ≡ list_all (branch_test scope) bs
  chance_fits bs scope = branches_row (hidden-the_row-Branch-2 bs) scope ∙ ap (list_all (branch_test scope)) (items_hidden-the_row-Branch-2 bs)

  forall_fits : (ps : List Param) (e : Effect) (scope : List Param)
      → effect_fits w domain (tree.Forall ps e) scope ≡ (params_fit w.types ps && effect_fits w domain e (ps ++ scope))
  unfolding hidden-the_row-Effect-1 hidden
  forall_fits ps e scope = refl

  when_fits : (c : Condition) (e : Effect) (scope : List Param)
      → effect_fits w domain (tree.When c e) scope ≡ (condition_fits w domain c scope && effect_fits w domain e scope)
  unfolding hidden-the_row-Effect-1 hidden
  when_fits c e scope = refl

-- ---- draws of effects that are made of others

abbrev branch_lists : Branch → List (List Fraction)
branch_lists b = chance_lists b.effect

each_lists : {n : _} (row : Row_of-Effect n) → lists_each row ≡ flat_map chance_lists (items-the_row-Effect n row)
each_lists end_of-Effect = refl
each_lists (more_of-Effect e es) = ap (λ l. chance_lists e ++ l) (each_lists es)

branches_lists : {n : _} (row : Row_of-Branch n) → lists_branches row ≡ flat_map branch_lists (items-the_row-Branch n row)
branches_lists end_of-Branch = refl
branches_lists (more_of-Branch chance e bs) = ap (λ l. chance_lists e ++ l) (branches_lists bs)

row_chances : {n : _} (row : Row_of-Branch n) → branch_chances row ≡ chances_of (items-the_row-Branch n row)
row_chances end_of-Branch = refl
row_chances (more_of-Branch chance e bs) = ap (λ l. chance ∷ l) (row_chances bs)

both_lists : (es : List Effect) → chance_lists (tree.Both es) ≡ flat_map chance_lists es
both_lists es = each_lists (hidden-the_row-Effect-0 es) ∙ ap (flat_map chance_lists) (items_hidden-the_row-Effect-0 es)

chance_draws : (bs : List Branch) → chance_lists (tree.Chance bs) ≡ chances_of bs ∷ flat_map branch_lists bs
chance_draws bs =
    ap (λ l. l ∷ lists_branches (hidden-the_row-Branch-2 bs)) (row_chances (hidden-the_row-Branch-2 bs) ∙ ap chances_of (items_hidden-the_row-Branch-2 bs))
    ∙ ap (λ l. chances_of bs ∷ l) (branches_lists (hidden-the_row-Branch-2 bs) ∙ ap (flat_map branch_lists) (items_hidden-the_row-Branch-2 bs))

forall_lists : (ps : List Param) (e : Effect) → chance_lists (tree.Forall ps e) ≡ chance_lists e
unfolding hidden-the_row-Effect-1 hidden
forall_lists ps e = refl

when_lists : (c : Condition) (e : Effect) → chance_lists (tree.When c e) ≡ chance_lists e
unfolding hidden-the_row-Effect-1 hidden
when_lists c e = refl

abbrev Proper : List (List Fraction) → Type 0
Proper = All AreProbabilities

module _ (d : Declared) where
  pub function_fits : (s : Scope) (f : Form) (x : Atom) → IsFunction d s f x → atom_fits (world_of d) (in_sight s) d.functions x ≡ true
  function_fits s f x (term_by.applied {fs = fs} app) = application_fits d s d.functions fs x app
  function_fits s f x (term_by.bare {w = w} {a = a} app) = application_fits d s d.functions (more (lone w a) none) x app

  -- ---- effects fit

  abbrev FitsIn : Scope → Effect → Bool
  FitsIn s e = effect_fits (world_of d) (domain_of d) e (in_sight s)

  abbrev Holds : Scope → Condition → Bool
  Holds s c = condition_fits (world_of d) (domain_of d) c (in_sight s)

  cost_fits : (s : Scope) (f : Form) (e : Effect) → IsCost d s f e → FitsIn s e ≡ true
  cost_fits s f e (by.amount {w = w} {n = n} other is) = amount_within w MOST_COST n is
  cost_fits s f e (by.function {x = x} is) = function_fits s f x is

  mutual
    pub effect_fit : (s : Scope) (f : Form) (e : Effect) → IsEffect d s f e → FitsIn s e ≡ true
    effect_fit s f e by.nothing = both_fits (world_of d) (domain_of d) [] (in_sight s)
    effect_fit s f e (by.addition {x = x} is) = atom_fit d s f x is
    effect_fit s f e (by.deletion {f = g} {x = x} is) = atom_fit d s g x is
    effect_fit s f e (by.conjunction {fs = gs} {es = es} parts) = both_fits (world_of d) (domain_of d) es (in_sight s) ∙ effects_fit s gs es parts
    effect_fit s f e (by.universality {f = g} {g = h} {ps = ps} {e = x} list inner) =
        forall_fits (world_of d) (domain_of d) ps x (in_sight s)
        ∙ and_from (params_fit d.types ps) (FitsIn (ps ∷ s) x) (list_fits d g ps list) (effect_fit (ps ∷ s) h x inner)
    effect_fit s f e (by.condition {f = g} {g = h} {x = c} {e = x} test inner) =
        when_fits (world_of d) (domain_of d) c x (in_sight s) ∙ and_from (Holds s c) (FitsIn s x) (condition_fit d s g c test) (effect_fit s h x inner)
    effect_fit s f e (by.chance {fs = gs} {bs = bs} parts are) = chance_fits (world_of d) (domain_of d) bs (in_sight s) ∙ branches_fit s gs bs parts
    effect_fit s f e (by.cost {g = g} one value) = cost_fits s g e value

    effects_fit : (s : Scope) (fs : Forms) (es : List Effect) → Effects d s fs es → list_all (effect_test (world_of d) (domain_of d) (in_sight s)) es ≡ true
    effects_fit s fs es by.no_effect = refl
    effects_fit s fs es (by.one_more {f = f} {fs = gs} {e = x} {es = xs} is others) =
        and_from (FitsIn s x) (list_all (effect_test (world_of d) (domain_of d) (in_sight s)) xs) (effect_fit s f x is) (effects_fit s gs xs others)

    branches_fit : (s : Scope) (fs : Forms) (bs : List Branch) → Branches d s fs bs → list_all (branch_test (world_of d) (domain_of d) (in_sight s)) bs ≡ true
    branches_fit s fs bs by.no_branch = refl
    branches_fit s fs bs (by.branch {g = g} {fs = gs} {e = x} {bs = xs} one is others) =
        and_from (FitsIn s x) (list_all (branch_test (world_of d) (domain_of d) (in_sight s)) xs) (effect_fit s g x is) (branches_fit s gs xs others)

  -- ---- and draw by probabilities

  no_draw : Proper []
  no_draw = All-nil AreProbabilities

  cost_draws : (s : Scope) (f : Form) (e : Effect) → IsCost d s f e → Proper (chance_lists e)
  cost_draws s f e (by.amount other is) = no_draw
  cost_draws s f e (by.function is) = no_draw

  mutual
    pub effect_draws : (s : Scope) (f : Form) (e : Effect) → IsEffect d s f e → Proper (chance_lists e)
    effect_draws s f e by.nothing = subst Proper (sym (both_lists [])) no_draw
    effect_draws s f e (by.addition is) = no_draw
    effect_draws s f e (by.deletion is) = no_draw
    effect_draws s f e (by.conjunction {fs = gs} {es = es} parts) = subst Proper (sym (both_lists es)) (effects_draw s gs es parts)
    effect_draws s f e (by.universality {g = h} {ps = ps} {e = x} list inner) = subst Proper (sym (forall_lists ps x)) (effect_draws (ps ∷ s) h x inner)
    effect_draws s f e (by.condition {g = h} {x = c} {e = x} test inner) = subst Proper (sym (when_lists c x)) (effect_draws s h x inner)
    effect_draws s f e (by.chance {fs = gs} {bs = bs} parts are) =
        subst Proper (sym (chance_draws bs)) (All-cons AreProbabilities (chances_of bs) (flat_map branch_lists bs) are (branches_draw s gs bs parts))
    effect_draws s f e (by.cost {g = g} one value) = cost_draws s g e value

    effects_draw : (s : Scope) (fs : Forms) (es : List Effect) → Effects d s fs es → Proper (flat_map chance_lists es)
    effects_draw s fs es by.no_effect = no_draw
    effects_draw s fs es (by.one_more {f = f} {fs = gs} {e = x} {es = xs} is others) =
        All-append AreProbabilities (chance_lists x) (flat_map chance_lists xs) (effect_draws s f x is) (effects_draw s gs xs others)

    branches_draw : (s : Scope) (fs : Forms) (bs : List Branch) → Branches d s fs bs → Proper (flat_map branch_lists bs)
    branches_draw s fs bs by.no_branch = no_draw
    branches_draw s fs bs (by.branch {g = g} {fs = gs} {e = x} {bs = xs} one is others) =
        All-append AreProbabilities (chance_lists x) (flat_map branch_lists xs) (effect_draws s g x is) (branches_draw s gs xs others)
