use Rattle.std.proofs.Common.{◌≡◌, map, drop}
use Rattle.task_instances.specs.fact_rows.Adding.{with_names}
use Rattle.task_instances.specs.facts.Adding.{predicate_of}
use Rattle.task_instances.proofs.facts.predicates.add_of_atoms.Given as goal

abbrev pub invariant-loop-atom : goal.invariant-loop-atom
invariant-loop-atom l = with_names l.names (map predicate_of (drop l.atom-index l.atoms)) ≡ with_names l.fn.names (map predicate_of l.atoms)
