use Rattle.std.proofs.Common.{◌∙◌}
use Rattle.task_instances.proofs.lemmas.facts.Made.{each_has_type}
use Rattle.task_instances.proofs.facts.task_facts.table.Goals as goal

pub make-requires : goal.make-requires
make-requires c =
    each_has_type c.args.task.now c.as_slice.result.now c.as_slice-2.result.now c.requires c.as_slice.ensures
    (c.as_slice-2.ensures.value ∙ c.in_ok-objects.ensures)
