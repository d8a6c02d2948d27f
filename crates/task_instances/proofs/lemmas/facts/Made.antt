-- What is found of a well-formed task.
use Rattle.std.proofs.Common.{◌≡◌, true, List, [], ◌++◌, map, sym, ap, subst, ◌∙◌}
use Rattle.std.specs.Prelude.{flat_map}
use Rattle.std.specs.List.{list_any, list_all}
use Rattle.ppddl_model.specs.declared.tree.InitItem.{InitItem}
use Rattle.ppddl_model.specs.declared.tree.ObjectDecl.{ObjectDecl}
use Rattle.ppddl_model.specs.declared.tree.Task.{Task}
use Rattle.ppddl_model.specs.declared.tree.TypeDecl.{TypeDecl}
use Rattle.ppddl_model.specs.declared.tree.ValueItem.{ValueItem}
use Rattle.ppddl_model.specs.State.{Name, same_name}
use Rattle.ppddl_model.specs.Objects.{World}
use Rattle.ppddl_model.specs.Changing.{changing_predicates}
use Rattle.ppddl_model.specs.WellFormed.{IsWellFormed}
use Rattle.type_table.specs.Types.{is_known}
use Rattle.ground_terms.specs.sizes.Typed.{IsTyped}
use Rattle.ground_terms.proofs.lemmas.sizes.Forgetting.{made_is_typed}
use Rattle.task_instances.specs.fact_rows.Adding.{with_names}
use Rattle.task_instances.specs.fact_rows.Rows.{NumberedAtoms}
use Rattle.task_instances.specs.facts.Adding.{fact_keys, value_key}
use Rattle.task_instances.specs.facts.Facts.{table_of, AreFactRows, AreTermRows, AreFactsOf}
use Rattle.task_instances.proofs.lemmas.fact_rows.Adding.{any-with_names}
use Rattle.task_instances.proofs.lemmas.facts.Facts.{facts_are_told, values_are_told, objects_known}

pub objects_have_types : (task : Task) → IsWellFormed task
    → list_all (is_known task.domain.types) (task.domain.constants ++ task.problem.objects) ≡ true
objects_have_types task fit =
    objects_known task.domain.types (task.domain.constants ++ task.problem.objects) (task.domain.constants ++ task.problem.objects) fit.objects

pub each_has_type : (task : Task) (types : List TypeDecl) (objects : List ObjectDecl) → IsWellFormed task → types ≡ task.domain.types
    → objects ≡ task.domain.constants ++ task.problem.objects → list_all (is_known types) objects ≡ true
each_has_type task types objects fit same are =
    ap (λ ts. list_all (is_known ts) objects) same ∙ ap (list_all (is_known task.domain.types)) are ∙ objects_have_types task fit

pub found : (task : Task) (w : World) (names keys : List Name) (items : List InitItem) (terms : List Name) (values : List ValueItem)
    (fact_rows term_rows : NumberedAtoms) → IsWellFormed task → w ≡ table_of task → names ≡ with_names [] (changing_predicates task) → items ≡ task.problem.init
    → keys ≡ with_names [] (flat_map fact_keys items) → values ≡ task.problem.values → terms ≡ with_names [] (map value_key values)
    → AreFactRows task fact_rows → AreTermRows task term_rows
    → AreFactsOf task w names keys items terms fact_rows term_rows
found task w names keys items terms values fact_rows term_rows fit table changing init facts given valued facts_put terms_put = record {
  table = table;
  typed = subst IsTyped (sym table)
      (made_is_typed task.domain.types (task.domain.constants ++ task.problem.objects) (objects_have_types task fit));
  changing = λ q. ap (list_any (same_name q)) changing ∙ any-with_names [] (changing_predicates task) q;
  init = init;
  facts = facts_are_told items keys facts;
  valued = values_are_told task values terms valued given;
  facts_by_row = facts_put;
  terms_by_row = terms_put;
}
