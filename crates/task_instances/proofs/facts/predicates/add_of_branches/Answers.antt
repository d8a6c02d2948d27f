use Rattle.std.proofs.Common.{map, ap, ◌∙◌}
use Rattle.task_instances.specs.fact_rows.Adding.{with_names}
use Rattle.task_instances.specs.facts.Adding.{predicate_of, branch_predicates}
use Rattle.task_instances.proofs.lemmas.fact_rows.Adding.{names_more}
use Rattle.task_instances.proofs.facts.predicates.add_of_branches.Goals as goal

pub loop-branch-preserved : goal.loop-branch-preserved
loop-branch-preserved c =
    names_more branch_predicates c.args.branches.now c.loop-branch.branch-index c.branch-item.result c.loop-branch.names c.add_of_atoms.new.names _
    c.loop-branch-test.true c.branch-item.is
    (c.in_ok-add_of_atoms.ensures ∙ ap (λ l. with_names c.loop-branch.names (map predicate_of l)) c.as_slice.ensures)
    c.loop-branch.invariant
