-- What rows of numbers tell of facts and of function terms.
use Rattle.std.proofs.Common.{◌≡◌, ℕ, suc, ◌+◌, ◌<◌, ◌≤◌, Bool, true, false, ◌||◌, List, [], ◌∷◌, ◌++◌, length, drop, drop-cons, get_or, add-one, refl, sym, ap, ◌∙◌}
use Rattle.std.specs.Prelude.{flat_map}
use Rattle.std.specs.List.{list_any, IsDistinct}
use Rattle.std.proofs.lemmas.List.{drop_all}
use Rattle.ppddl_model.specs.declared.tree.Task.{Task}
use Rattle.ppddl_model.specs.declared.tree.ValueItem.{ValueItem}
use Rattle.ppddl_model.specs.State.{same_name, GroundAtom, same_atom, no_atoms}
use Rattle.ppddl_model.specs.Objects.{World}
use Rattle.ppddl_model.specs.Functions.{is_value_of}
use Rattle.ppddl_model.specs.Changing.{facts}
use Rattle.ppddl_model.proofs.States.{has-with_atoms}
use Rattle.type_table.specs.Types.{object_names}
use Rattle.type_table.proofs.Once.{each_once_distinct, objects_distinct}
use Rattle.task_instances.specs.fact_rows.Rows.{NumberedAtoms, none_of, with_atoms}
use Rattle.task_instances.proofs.lemmas.fact_rows.Telling.{rows_tell, names_stay}
use Rattle.task_instances.specs.facts.Adding.{value_atoms}
use Rattle.task_instances.specs.facts.Facts.{table_of, predicate_names, function_names, fact_at, term_at, AreFactRows, AreTermRows}
use Rattle.task_instances.proofs.lemmas.facts.Facts.{found_any}

-- ---- one item more, with the ground atoms that it gives

atoms-append : (w : World) (a : NumberedAtoms) (qs more : List GroundAtom) → with_atoms w a (qs ++ more) ≡ with_atoms w (with_atoms w a qs) more
atoms-append w a [] more = refl
atoms-append w a (q ∷ qs) more = atoms-append w (with_atoms w a (q ∷ [])) qs more

pub atoms_more : {X : Type 0} (w : World) (f : X → List GroundAtom) (xs : List X) (i : ℕ) (x : X) (so_far next whole : NumberedAtoms)
    → i < length xs → x ≡ get_or xs i x → next ≡ with_atoms w so_far (f x)
    → with_atoms w so_far (flat_map f (drop i xs)) ≡ whole → with_atoms w next (flat_map f (drop (i + 1) xs)) ≡ whole
atoms_more w f xs i x so_far next whole within is step before =
    ap (λ a. with_atoms w a (flat_map f (drop (i + 1) xs))) step
    ∙ sym (atoms-append w so_far (f x) (flat_map f (drop (i + 1) xs)))
    ∙ ap (with_atoms w so_far)
    (sym (ap (flat_map f) (drop-cons xs i x within)
    ∙ ap (λ y. f y ++ flat_map f (drop (suc i) xs)) (sym is)
    ∙ ap (λ k. f x ++ flat_map f (drop k xs)) (sym (add-one i))))
    ∙ before

pub atoms_end : {X : Type 0} (w : World) (f : X → List GroundAtom) (xs : List X) (i : ℕ) (so_far whole : NumberedAtoms) → length xs ≤ i
    → with_atoms w so_far (flat_map f (drop i xs)) ≡ whole → so_far ≡ whole
atoms_end w f xs i so_far whole past before =
    sym (ap (λ l. with_atoms w so_far (flat_map f l)) (drop_all i xs past)) ∙ before

-- ---- what they tell

or-false : (a : Bool) → (a || false) ≡ a
or-false true = refl
or-false false = refl

any_term : (t : GroundAtom) (items : List ValueItem) → list_any (same_atom t) (flat_map value_atoms items) ≡ list_any (is_value_of t) items
any_term t [] = refl
any_term t (v ∷ items) = ap (λ b. is_value_of t v || b) (any_term t items)

module _ (task : Task) (rows : NumberedAtoms) where
  apart : IsDistinct same_name (object_names (table_of task))
  apart = objects_distinct (task.domain.constants ++ task.problem.objects)

  pub fact_rows_tell : rows ≡ with_atoms (table_of task) (none_of (predicate_names task)) (facts task) → AreFactRows task rows
  fact_rows_tell are = record {
    names = ap (λ (a : NumberedAtoms). a.names) are ∙ names_stay (table_of task) (none_of (predicate_names task)) (facts task);
    tell = λ row is.
        ap (λ (a : NumberedAtoms). list_any (same_name row) a.rows) are
        ∙ rows_tell (predicate_names task) (table_of task) (each_once_distinct _) apart row is (facts task)
        ∙ sym (has-with_atoms no_atoms (facts task) (fact_at task row) ∙ or-false (list_any (same_atom (fact_at task row)) (facts task)));
  }

  pub term_rows_tell : rows ≡ with_atoms (table_of task) (none_of (function_names task)) (flat_map value_atoms task.problem.values) → AreTermRows task rows
  term_rows_tell are = record {
    names = ap (λ (a : NumberedAtoms). a.names) are ∙ names_stay (table_of task) (none_of (function_names task)) (flat_map value_atoms task.problem.values);
    tell = λ row is.
        ap (λ (a : NumberedAtoms). list_any (same_name row) a.rows) are
        ∙ rows_tell (function_names task) (table_of task) (each_once_distinct _) apart row is (flat_map value_atoms task.problem.values)
        ∙ any_term (term_at task row) task.problem.values
        ∙ sym (found_any (λ (v : ValueItem). v.value) (is_value_of (term_at task row)) task.problem.values);
  }
