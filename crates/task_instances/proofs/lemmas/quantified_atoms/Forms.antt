-- The atoms of effects that are built from their parts.
use Rattle.std.proofs.Common.{◌≡◌, Bool, true, false, ◌&&◌, List, refl, sym, ap, ◌∙◌}
use Rattle.std.specs.Prelude.{flat_map}
use Rattle.std.specs.List.{list_all}
use Rattle.std.proofs.lemmas.List.Folds.{list_all-append}
use denote.Hole.Carrier.{hidden}
use Rattle.ppddl_model.specs.declared.tree.Branch.{Branch}
use Rattle.ppddl_model.specs.declared.tree.Condition.{Condition}
use Rattle.ppddl_model.specs.declared.tree.Effect.{Effect, Row_of-Effect, end_of-Effect, more_of-Effect, items-the_row-Effect, items_hidden-the_row-Effect-0}
use Rattle.ppddl_model.specs.declared.tree.Effect.{Row_of-Branch, end_of-Branch, more_of-Branch, items-the_row-Branch, items_hidden-the_row-Branch-2}
use Rattle.ppddl_model.specs.declared.tree.Effect.TheBlock.{hidden-the_row-Effect-0, hidden-the_row-Effect-1, hidden-the_row-Branch-2}
use Rattle.ppddl_model.specs.declared.tree.Effect.TheVariants as effect
use Rattle.ppddl_model.specs.declared.tree.Param.{Param}
use Rattle.ppddl_model.specs.State.{GroundAtom}
use Rattle.ppddl_model.specs.Objects.{World, Binding, bindings}
use Rattle.ppddl_model.specs.Functions.{function_terms, terms_each, terms_branches}
use Rattle.ppddl_model.specs.Changing.{literals, literals_each, literals_branches}
use Rattle.task_instances.specs.declared.quantified_atoms.atom_kind.AtomKind.{AtomKind}
use Rattle.task_instances.specs.declared.quantified_atoms.atom_kind.AtomKind.TheVariants.{Literal, FunctionTerm}
use Rattle.task_instances.specs.quantified_atoms.Quantified.{effect_atoms, part_pass, branch_pass}
use Rattle.task_instances.proofs.lemmas.quantified_atoms.MoreVariables.{all-flat}

pub and_true : (a : Bool) → a ≡ (a && true)
and_true true = refl
and_true false = refl

module _ (w : World) (f : GroundAtom → Bool) where
  literals_row : {n : _} (row : Row_of-Effect n) (b : Binding)
      → list_all f (literals_each w row b) ≡ list_all (part_pass w Literal f b) (items-the_row-Effect n row)
  literals_row end_of-Effect b = refl
  literals_row (more_of-Effect e es) b =
      list_all-append f (literals w e b) (literals_each w es b) ∙ ap (λ t. part_pass w Literal f b e && t) (literals_row es b)

  terms_row : {n : _} (row : Row_of-Effect n) (b : Binding)
      → list_all f (terms_each w row b) ≡ list_all (part_pass w FunctionTerm f b) (items-the_row-Effect n row)
  terms_row end_of-Effect b = refl
  terms_row (more_of-Effect e es) b =
      list_all-append f (function_terms w e b) (terms_each w es b) ∙ ap (λ t. part_pass w FunctionTerm f b e && t) (terms_row es b)

  branch_literals : {n : _} (row : Row_of-Branch n) (b : Binding)
      → list_all f (literals_branches w row b) ≡ list_all (branch_pass w Literal f b) (items-the_row-Branch n row)
  branch_literals end_of-Branch b = refl
  branch_literals (more_of-Branch chance e branches) b =
      list_all-append f (literals w e b) (literals_branches w branches b) ∙ ap (λ t. part_pass w Literal f b e && t) (branch_literals branches b)

  branch_terms : {n : _} (row : Row_of-Branch n) (b : Binding)
      → list_all f (terms_branches w row b) ≡ list_all (branch_pass w FunctionTerm f b) (items-the_row-Branch n row)
  branch_terms end_of-Branch b = refl
  branch_terms (more_of-Branch chance e branches) b =
      list_all-append f (function_terms w e b) (terms_branches w branches b) ∙ ap (λ t. part_pass w FunctionTerm f b e && t) (branch_terms branches b)

  of_both : (k : AtomKind) (es : List Effect) (b : Binding) → list_all (part_pass w k f b) es ≡ part_pass w k f b (effect.Both es)
  of_both Literal es b =
      ap (list_all (part_pass w Literal f b)) (sym (items_hidden-the_row-Effect-0 es)) ∙ sym (literals_row (hidden-the_row-Effect-0 es) b)
  of_both FunctionTerm es b =
      ap (list_all (part_pass w FunctionTerm f b)) (sym (items_hidden-the_row-Effect-0 es)) ∙ sym (terms_row (hidden-the_row-Effect-0 es) b)

  pub pass-Both : (k : AtomKind) (whole : Effect) (es parts : List Effect) (b : Binding) → whole ≡ effect.Both es → parts ≡ es
      → list_all (part_pass w k f b) parts ≡ part_pass w k f b whole
  pass-Both k whole es parts b is same = ap (list_all (part_pass w k f b)) same ∙ of_both k es b ∙ ap (part_pass w k f b) (sym is)

  of_chance : (k : AtomKind) (branches : List Branch) (b : Binding) → list_all (branch_pass w k f b) branches ≡ part_pass w k f b (effect.Chance branches)
  of_chance Literal branches b =
      ap (list_all (branch_pass w Literal f b)) (sym (items_hidden-the_row-Branch-2 branches)) ∙ sym (branch_literals (hidden-the_row-Branch-2 branches) b)
  of_chance FunctionTerm branches b =
      ap (list_all (branch_pass w FunctionTerm f b)) (sym (items_hidden-the_row-Branch-2 branches)) ∙ sym (branch_terms (hidden-the_row-Branch-2 branches) b)

  pub pass-Chance : (k : AtomKind) (whole : Effect) (branches parts : List Branch) (b : Binding) → whole ≡ effect.Chance branches → parts ≡ branches
      → list_all (branch_pass w k f b) parts ≡ part_pass w k f b whole
  pass-Chance k whole branches parts b is same =
      ap (list_all (branch_pass w k f b)) same ∙ of_chance k branches b ∙ ap (part_pass w k f b) (sym is)

  of_when : (k : AtomKind) (c : Condition) (e : Effect) (b : Binding) → part_pass w k f b e ≡ part_pass w k f b (effect.When c e)
  unfolding hidden-the_row-Effect-1 hidden
  of_when Literal c e b = refl
  of_when FunctionTerm c e b = refl

  pub pass-When : (k : AtomKind) (whole e e' : Effect) (c : Condition) (b : Binding) → whole ≡ effect.When c e → e' ≡ e
      → part_pass w k f b e' ≡ part_pass w k f b whole
  pass-When k whole e e' c b is inner = ap (part_pass w k f b) inner ∙ of_when k c e b ∙ ap (part_pass w k f b) (sym is)

  of_forall : (k : AtomKind) (ps : List Param) (e : Effect) (b : Binding)
      → list_all f (flat_map (λ b'. effect_atoms w k e b') (bindings w ps b)) ≡ part_pass w k f b (effect.Forall ps e)
  unfolding hidden-the_row-Effect-1 hidden
  of_forall Literal ps e b = refl
  of_forall FunctionTerm ps e b = refl

  pub pass-Forall : (k : AtomKind) (whole e e' : Effect) (ps qs : List Param) (b : Binding) → whole ≡ effect.Forall ps e → e' ≡ e → qs ≡ ps
      → list_all (λ b'. part_pass w k f b' e') (bindings w qs b) ≡ part_pass w k f b whole
  pass-Forall k whole e e' ps qs b is inner variables =
      (λ i. list_all (λ b'. part_pass w k f b' (inner i)) (bindings w (variables i) b))
      ∙ sym (all-flat f (λ b'. effect_atoms w k e b') (bindings w ps b))
      ∙ of_forall k ps e b ∙ ap (part_pass w k f b) (sym is)
  -- ---- single atoms
