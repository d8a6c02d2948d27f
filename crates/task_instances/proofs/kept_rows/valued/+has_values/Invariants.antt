use Rattle.std.proofs.Common.{◌≡◌, length, drop}
use Rattle.std.specs.List.{list_all}
use Rattle.ppddl_model.specs.Steps.{world}
use Rattle.type_table.specs.Types.{object_at}
use Rattle.ground_terms.specs.terms.Scopes.{binding_of}
use Rattle.task_instances.specs.facts.Facts.{table_of}
use Rattle.task_instances.specs.quantified_atoms.Needed.{params_of}
use Rattle.task_instances.specs.kept_rows.Terms.{has_values}
use Rattle.task_instances.proofs.lemmas.kept_rows.Valuing.{valued_object}
use Rattle.task_instances.proofs.kept_rows.valued.+has_values.Given as goal

abbrev pub decreases-has_values : goal.decreases-has_values
decreases-has_values l = length l.variables.now

abbrev pub invariant-loop-object : goal.invariant-loop-object
invariant-loop-object l =
    list_all (λ o. valued_object (world l.facts) l.term (params_of (drop 1 l.variables)) l.first (binding_of l.scope) (object_at (table_of l.facts) o))
    (drop l.object-index l.object-items)
    ≡ has_values (world l.facts) l.term (params_of l.variables) (binding_of l.scope)
