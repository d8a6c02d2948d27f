use Rattle.std.proofs.Common.{◌≡◌, drop}
use Rattle.std.specs.List.{list_all}
use Rattle.task_instances.specs.quantified_atoms.Quantified.{variables_of, is_bound_by, is_settled}
use Rattle.task_instances.proofs.quantified_atoms.settling.is_settled.Given as goal

abbrev pub invariant-loop-term : goal.invariant-loop-term
invariant-loop-term l =
    list_all (is_bound_by (variables_of l.quantified)) (drop l.term-index l.term-items) ≡ is_settled l.quantified
