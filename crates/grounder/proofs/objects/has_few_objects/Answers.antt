use Rattle.std.proofs.Common.{map, ap, ◌∙◌}
use Rattle.std.specs.Prelude.{nat_le}
use Rattle.ground_meaning.specs.declared.refusals.limits.TheConstants.{MOST_OBJECTS}
use Rattle.task_instances.specs.fact_rows.Adding.{with_names}
use Rattle.grounder.specs.ObjectNames.{object_name}
use Rattle.grounder.proofs.Counting.{counted_all}
use Rattle.grounder.proofs.objects.has_few_objects.Goals as goal

pub returns : goal.returns
returns c =
    ap (λ n. nat_le n MOST_OBJECTS)
    (c.in_ok-total.ensures.count
    ∙ counted_all c.args.task.now c.add_names.new.names c.add_names-2.new.names
    (c.in_ok-constants.ensures.names ∙ (λ i. with_names (c.new-names.ensures i) (map object_name (c.as_slice.ensures i))))
    (c.in_ok-total.ensures.names ∙ ap (λ l. with_names c.add_names.new.names (map object_name l)) c.as_slice-2.ensures))
