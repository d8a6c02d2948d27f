-- The conjuncts of a condition: what may hold, where each of them may, and how they are listed.
use Rattle.std.proofs.Common.{◌≡◌, Bool, true, false, ◌&&◌, ◌||◌, ◌⊎◌, inl, inr, Option, Some, None, List, ◌++◌, refl, sym, ap, ◌∙◌}
use Rattle.std.specs.Prelude.{flat_map}
use Rattle.std.specs.List.{list_any}
use Rattle.std.proofs.lemmas.List.Folds.{list_all-append}
use Rattle.ppddl_model.specs.declared.tree.Condition.{Condition, Row_of-Condition, end_of-Condition, more_of-Condition, items-the_row-Condition, items_hidden-the_row-Condition-1}
use Rattle.ppddl_model.specs.declared.tree.Condition.TheBlock.{shape-the_row-Condition-0, hidden-the_row-Condition-0, hidden-the_row-Condition-1}
use denote.Hole.Carrier.{hidden}
use Rattle.ppddl_model.specs.declared.tree.Condition.TheVariants as condition
use Rattle.ppddl_model.specs.declared.tree.Param.{Param}
use Rattle.ppddl_model.specs.declared.tree.Task.{Task}
use Rattle.ppddl_model.specs.State.{Name, no_atoms, with_atoms}
use Rattle.ppddl_model.specs.Objects.{Binding}
use Rattle.ppddl_model.specs.Known.{known_and, known_all, known_each, is_not_false}
use Rattle.ppddl_model.specs.Steps.{world}
use Rattle.ppddl_model.specs.Changing.{changing_predicates, facts, known_of}
use Rattle.task_instances.specs.kept_rows.Stages.{names_variable, each_names_variable, conjuncts_of, conjuncts_of_each, may_hold, may_all_hold}

pub and_true : (a : Bool) → (a && true) ≡ a
and_true true = refl
and_true false = refl

not_false_and : (x y : Option Bool) → is_not_false (known_and x y) ≡ (is_not_false x && is_not_false y)
not_false_and (Some false) y = refl
not_false_and (Some true) y = refl
not_false_and None (Some false) = refl
not_false_and None (Some true) = refl
not_false_and None None = refl

module _ (task : Task) (b : Binding) where
  mutual
    pub each_may_hold : (c : Condition) → may_hold task b c ≡ may_all_hold task b (conjuncts_of c)
    each_may_hold (condition.All' shape cs) = row_may_hold cs
    each_may_hold c = sym (and_true (may_hold task b c))

    row_may_hold : {n : _} (cs : Row_of-Condition n)
        → is_not_false (known_all (known_each (world task) (changing_predicates task) (with_atoms no_atoms (facts task)) cs b))
        ≡ may_all_hold task b (conjuncts_of_each cs)
    row_may_hold end_of-Condition = refl
    row_may_hold (more_of-Condition c cs) =
        not_false_and (known_of task c b) (known_all (known_each (world task) (changing_predicates task) (with_atoms no_atoms (facts task)) cs b))
        ∙ ap (λ t. t && is_not_false (known_all (known_each (world task) (changing_predicates task) (with_atoms no_atoms (facts task)) cs b))) (each_may_hold c)
        ∙ ap (λ t. may_all_hold task b (conjuncts_of c) && t) (row_may_hold cs)
        ∙ sym (list_all-append (may_hold task b) (conjuncts_of c) (conjuncts_of_each cs))

-- ---- conditions that are built from their parts

conjuncts_row : {n : _} (row : Row_of-Condition n) → conjuncts_of_each row ≡ flat_map conjuncts_of (items-the_row-Condition n row)
conjuncts_row end_of-Condition = refl
conjuncts_row (more_of-Condition c cs) = ap (λ l. conjuncts_of c ++ l) (conjuncts_row cs)

pub conjuncts-All : (whole : Condition) (cs parts : List Condition) → whole ≡ condition.All cs → parts ≡ cs
    → flat_map conjuncts_of parts ≡ conjuncts_of whole
conjuncts-All whole cs parts is same =
    ap (flat_map conjuncts_of) (same ∙ sym (items_hidden-the_row-Condition-1 cs)) ∙ sym (conjuncts_row (hidden-the_row-Condition-1 cs))
    ∙ ap conjuncts_of (sym is)

-- ---- where a variable stands

names_row : {n : _} (v : Name) (row : Row_of-Condition n) → each_names_variable v row ≡ list_any (names_variable v) (items-the_row-Condition n row)
names_row v end_of-Condition = refl
names_row v (more_of-Condition c cs) = ap (λ t. names_variable v c || t) (names_row v cs)

pub names-All : (v : Name) (whole : Condition) (cs parts : List Condition) → (whole ≡ condition.All cs) ⊎ (whole ≡ condition.Any cs) → parts ≡ cs
    → list_any (names_variable v) parts ≡ names_variable v whole
names-All v whole cs parts (inl is) same =
    ap (list_any (names_variable v)) (same ∙ sym (items_hidden-the_row-Condition-1 cs)) ∙ sym (names_row v (hidden-the_row-Condition-1 cs))
    ∙ ap (names_variable v) (sym is)
names-All v whole cs parts (inr is) same =
    ap (list_any (names_variable v)) (same ∙ sym (items_hidden-the_row-Condition-1 cs)) ∙ sym (names_row v (hidden-the_row-Condition-1 cs))
    ∙ ap (names_variable v) (sym is)

pub names-Not : (v : Name) (c : Condition) → names_variable v c ≡ names_variable v (condition.Not c)
unfolding shape-the_row-Condition-0 hidden-the_row-Condition-0 hidden
names-Not v c = refl

pub names-Imply : (v : Name) (c d : Condition) → (names_variable v c || names_variable v d) ≡ names_variable v (condition.Imply c d)
unfolding shape-the_row-Condition-0 hidden-the_row-Condition-0 hidden
names-Imply v c d = refl

in_exists : (v : Name) (ps : List Param) (c : Condition) → names_variable v c ≡ names_variable v (condition.Exists ps c)
unfolding shape-the_row-Condition-0 hidden-the_row-Condition-0 hidden
in_exists v ps c = refl

in_forall : (v : Name) (ps : List Param) (c : Condition) → names_variable v c ≡ names_variable v (condition.Forall ps c)
unfolding shape-the_row-Condition-0 hidden-the_row-Condition-0 hidden
in_forall v ps c = refl

pub names-Quantified : (v : Name) (whole c : Condition)
    → ((ps : List Param) × (whole ≡ condition.Exists ps c)) ⊎ ((ps : List Param) × (whole ≡ condition.Forall ps c))
    → names_variable v c ≡ names_variable v whole
names-Quantified v whole c (inl (ps, is)) = in_exists v ps c ∙ ap (names_variable v) (sym is)
names-Quantified v whole c (inr (ps, is)) = in_forall v ps c ∙ ap (names_variable v) (sym is)
