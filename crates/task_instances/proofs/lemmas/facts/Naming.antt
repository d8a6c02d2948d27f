-- The predicates of effects and of items that are built from their parts.
use Rattle.std.proofs.Common.{◌≡◌, List, [], ◌∷◌, ◌++◌, refl, sym, ap, ◌∙◌}
use Rattle.std.specs.Prelude.{flat_map}
use Rattle.std.proofs.lemmas.List.{map-append}
use denote.Hole.Carrier.{hidden}
use Rattle.ppddl_model.specs.declared.tree.Branch.{Branch}
use Rattle.ppddl_model.specs.declared.tree.Condition.{Condition}
use Rattle.ppddl_model.specs.declared.tree.Effect.{Effect, Row_of-Effect, end_of-Effect, more_of-Effect, items-the_row-Effect, items_hidden-the_row-Effect-0}
use Rattle.ppddl_model.specs.declared.tree.Effect.{Row_of-Branch, end_of-Branch, more_of-Branch, items-the_row-Branch, items_hidden-the_row-Branch-2}
use Rattle.ppddl_model.specs.declared.tree.Effect.TheBlock.{hidden-the_row-Effect-0, hidden-the_row-Effect-1, hidden-the_row-Branch-2}
use Rattle.ppddl_model.specs.declared.tree.Effect.TheVariants as effect
use Rattle.ppddl_model.specs.declared.tree.InitBranch.{InitBranch}
use Rattle.ppddl_model.specs.declared.tree.InitItem.TheVariants as item
use Rattle.ppddl_model.specs.declared.tree.Param.{Param}
use Rattle.ppddl_model.specs.State.{Name}
use Rattle.ppddl_model.specs.Changing.{predicates_of, predicates_each, predicates_branches, chance_predicates}
use Rattle.task_instances.specs.fact_rows.Adding.{with_names}
use Rattle.task_instances.specs.facts.Adding.{predicate_of, branch_predicates}

abbrev pub branch_effect_predicates : Branch → List Name
branch_effect_predicates branch = predicates_of branch.effect

each_row : {n : _} (row : Row_of-Effect n) → predicates_each row ≡ flat_map predicates_of (items-the_row-Effect n row)
each_row end_of-Effect = refl
each_row (more_of-Effect e es) = ap (λ l. predicates_of e ++ l) (each_row es)

branches_row : {n : _} (row : Row_of-Branch n) → predicates_branches row ≡ flat_map branch_effect_predicates (items-the_row-Branch n row)
branches_row end_of-Branch = refl
branches_row (more_of-Branch chance e branches) = ap (λ l. predicates_of e ++ l) (branches_row branches)

-- so far, and then those of all parts
pub begun-Both : (names : List Name) (whole : Effect) (es parts : List Effect) → whole ≡ effect.Both es → parts ≡ es
    → with_names names (flat_map predicates_of parts) ≡ with_names names (predicates_of whole)
begun-Both names whole es parts is same =
    ap (with_names names)
    (ap (flat_map predicates_of) (same ∙ sym (items_hidden-the_row-Effect-0 es)) ∙ sym (each_row (hidden-the_row-Effect-0 es)) ∙ ap predicates_of (sym is))

pub begun-Chance : (names : List Name) (whole : Effect) (branches parts : List Branch) → whole ≡ effect.Chance branches → parts ≡ branches
    → with_names names (flat_map branch_effect_predicates parts) ≡ with_names names (predicates_of whole)
begun-Chance names whole branches parts is same =
    ap (with_names names)
    (ap (flat_map branch_effect_predicates) (same ∙ sym (items_hidden-the_row-Branch-2 branches)) ∙ sym (branches_row (hidden-the_row-Branch-2 branches))
    ∙ ap predicates_of (sym is))

of_forall : (ps : List Param) (e : Effect) → predicates_of e ≡ predicates_of (effect.Forall ps e)
unfolding hidden-the_row-Effect-1 hidden
of_forall ps e = refl

of_when : (c : Condition) (e : Effect) → predicates_of e ≡ predicates_of (effect.When c e)
unfolding hidden-the_row-Effect-1 hidden
of_when c e = refl

pub names-Forall : (whole e e' : Effect) (ps : List Param) → whole ≡ effect.Forall ps e → e' ≡ e → predicates_of e' ≡ predicates_of whole
names-Forall whole e e' ps is inner = ap predicates_of inner ∙ of_forall ps e ∙ ap predicates_of (sym is)

pub names-When : (whole e e' : Effect) (c : Condition) → whole ≡ effect.When c e → e' ≡ e → predicates_of e' ≡ predicates_of whole
names-When whole e e' c is inner = ap predicates_of inner ∙ of_when c e ∙ ap predicates_of (sym is)

-- ---- items of `:init`

pub of_branches : (branches : List InitBranch) → flat_map branch_predicates branches ≡ chance_predicates (item.Chance branches)
of_branches [] = refl
of_branches (branch ∷ branches) =
    ap (λ l. branch_predicates branch ++ l) (of_branches branches)
    ∙ sym (map-append predicate_of branch.atoms (flat_map (λ (x : InitBranch). x.atoms) branches))
