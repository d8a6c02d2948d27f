use Rattle.task_instances.proofs.lemmas.facts.Made.{found}
use Rattle.task_instances.proofs.facts.task_facts.TaskFacts.make.Goals as goal

pub invariant_of-result : goal.invariant_of-result
invariant_of-result c =
    found c.args.task.now c.in_ok-table.table c.in-Ok.facts.changing c.in-Ok.facts.keys c.in-Ok.facts.init.now
    c.in-Ok-keys_of_values.valued c.as_slice.result.now c.in-Ok-numbered_facts.numbered.facts c.in-Ok-numbered_facts.numbered.terms c.requires
    c.in_ok-table.ensures c.in-Ok.ensures.changing c.in-Ok.ensures.init c.in-Ok.ensures.keys
    c.as_slice.ensures c.in-Ok-keys_of_values.ensures c.in-Ok-numbered_facts.ensures.facts c.in-Ok-numbered_facts.ensures.terms
