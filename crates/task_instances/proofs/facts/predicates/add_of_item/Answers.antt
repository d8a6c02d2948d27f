use Rattle.std.proofs.Common.{flat_map, sym, ap, ◌∙◌}
use Rattle.std.proofs.lemmas.Result.{IfOk-equal}
use Rattle.ppddl_model.specs.Changing.{chance_predicates}
use Rattle.task_instances.specs.fact_rows.Adding.{with_names}
use Rattle.task_instances.specs.facts.Adding.{branch_predicates}
use Rattle.task_instances.proofs.lemmas.facts.Naming.{of_branches}
use Rattle.task_instances.proofs.facts.predicates.add_of_item.Goals as goal

pub returns-in-Chance : goal.returns-in-Chance
returns-in-Chance c =
    IfOk-equal c.add_of_branches.result c.add_of_branches.new.names (with_names c.args.names.now (flat_map branch_predicates c.as_slice.result.now))
    (with_names c.args.names.now (chance_predicates c.args.item.now)) c.add_of_branches.ensures
    (ap (with_names c.args.names.now)
    (ap (flat_map branch_predicates) c.as_slice.ensures ∙ of_branches c.in-Chance.branches ∙ ap chance_predicates (sym c.in-Chance.is)))
