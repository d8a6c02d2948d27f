use Rattle.std.proofs.Common.{take}
use Rattle.task_instances.specs.kept_rows.Patterns.{HasSlots}
use Rattle.task_instances.proofs.kept_rows.pattern.slots_of.Given as goal

abbrev pub invariant-loop-term : goal.invariant-loop-term
invariant-loop-term l = HasSlots l.table l.params (take l.term-index l.terms) l.slots.items
