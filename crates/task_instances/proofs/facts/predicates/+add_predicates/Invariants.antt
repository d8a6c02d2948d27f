use Rattle.std.proofs.Common.{◌≡◌, flat_map, drop}
use Rattle.ppddl_model.specs.Changing.{predicates_of}
use Rattle.task_instances.specs.fact_rows.Adding.{with_names}
use Rattle.task_instances.proofs.lemmas.facts.Naming.{branch_effect_predicates}
use Rattle.task_instances.proofs.facts.predicates.+add_predicates.Given as goal

abbrev pub invariant-loop-part : goal.invariant-loop-part
invariant-loop-part l = with_names l.names (flat_map predicates_of (drop l.part-index l.part-items)) ≡ with_names l.fn.names (predicates_of l.effect)

abbrev pub invariant-loop-branch : goal.invariant-loop-branch
invariant-loop-branch l = with_names l.names (flat_map branch_effect_predicates (drop l.branch-index l.branch-items)) ≡ with_names l.fn.names (predicates_of l.effect)
