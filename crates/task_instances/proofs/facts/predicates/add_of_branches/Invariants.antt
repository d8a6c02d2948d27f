use Rattle.std.proofs.Common.{◌≡◌, flat_map, drop}
use Rattle.task_instances.specs.fact_rows.Adding.{with_names}
use Rattle.task_instances.specs.facts.Adding.{branch_predicates}
use Rattle.task_instances.proofs.facts.predicates.add_of_branches.Given as goal

abbrev pub invariant-loop-branch : goal.invariant-loop-branch
invariant-loop-branch l = with_names l.names (flat_map branch_predicates (drop l.branch-index l.branches)) ≡ with_names l.fn.names (flat_map branch_predicates l.branches)
