-- What is known of a condition depends neither on the values of functions nor on the order of the predicates that may change.
use Rattle.std.proofs.Common.{◌≡◌, cond, List, [], ◌∷◌, map, Some, None, Bool, refl, sym, ap, ◌∙◌}
use Rattle.std.specs.Prelude.{Option}
use Rattle.std.specs.List.{list_any}
use Rattle.ppddl_model.specs.declared.tree.Condition.{Condition, Row_of-Condition, end_of-Condition, more_of-Condition}
use Rattle.ppddl_model.specs.declared.tree.Condition.TheVariants as condition
use Rattle.ppddl_model.specs.declared.tree.Task.{Task}
use Rattle.ppddl_model.specs.declared.tree.ValueItem.{ValueItem}
use Rattle.ppddl_model.specs.State.{Name, same_name, State, has, no_atoms, with_atoms}
use Rattle.ppddl_model.specs.Objects.{World, Binding, ground_atom, bindings}
use Rattle.ppddl_model.specs.Known.{known, known_each, known_not, known_or, known_all, known_any}
use Rattle.ppddl_model.specs.Changing.{changing_predicates, facts, known_of}
use Rattle.ground_terms.specs.sizes.Valued.{with_values}
use Rattle.ground_terms.proofs.lemmas.sizes.CostSteps.{bindings-valued}
use Rattle.task_instances.specs.known_conditions.Known.{known_in}
use Rattle.task_instances.specs.facts.Facts.{table_of, AreChanging}

map_same : {X Y : Type 0} (f g : X → Y) → ((x : X) → f x ≡ g x) → (xs : List X) → map f xs ≡ map g xs
map_same f g each [] = refl
map_same f g each (x ∷ xs) = λ i. each x i ∷ map_same f g each xs i

module _ (w : World) (values : List ValueItem) (names others : List Name) (s : State)
    (same : (q : Name) → list_any (same_name q) names ≡ list_any (same_name q) others) where
  abbrev here : Condition → Binding → Option Bool
  here = known w names s

  abbrev there : Condition → Binding → Option Bool
  there = known (with_values w values) others s

  mutual
    pub known_same : (c : Condition) (b : Binding) → here c b ≡ there c b
    known_same (condition.Atom a) b = ap (λ may. cond may None (Some (has s (ground_atom b a)))) (same a.predicate)
    known_same (condition.Equal x y) b = refl
    known_same (condition.Not' u (more_of-Condition c end_of-Condition)) b = ap known_not (known_same c b)
    known_same (condition.All' shape cs) b = ap known_all (each_same cs b)
    known_same (condition.Any' shape cs) b = ap known_any (each_same cs b)
    known_same (condition.Imply' u (more_of-Condition c end_of-Condition) v (more_of-Condition d end_of-Condition)) b =
        ap (λ k. known_or (known_not k) (here d b)) (known_same c b) ∙ ap (known_or (known_not (there c b))) (known_same d b)
    known_same (condition.Exists' params u (more_of-Condition c end_of-Condition)) b =
        ap known_any (map_same (here c) (there c) (known_same c) (bindings w params b)
        ∙ ap (map (there c)) (sym (bindings-valued w values params b)))
    known_same (condition.Forall' params u (more_of-Condition c end_of-Condition)) b =
        ap known_all (map_same (here c) (there c) (known_same c) (bindings w params b)
        ∙ ap (map (there c)) (sym (bindings-valued w values params b)))

    each_same : {n : _} (cs : Row_of-Condition n) (b : Binding) → known_each w names s cs b ≡ known_each (with_values w values) others s cs b
    each_same end_of-Condition b = refl
    each_same (more_of-Condition c cs) b = λ i. known_same c b i ∷ each_same cs b i

pub known_by_table : (task : Task) (names : List Name) → AreChanging names task → (c : Condition) (b : Binding)
    → known_in (table_of task) names task.problem.init c b ≡ known_of task c b
known_by_table task names are c b =
    known_same (table_of task) task.problem.values names (changing_predicates task) (with_atoms no_atoms (facts task)) are c b
