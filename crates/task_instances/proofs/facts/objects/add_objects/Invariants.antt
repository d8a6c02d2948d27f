use Rattle.std.proofs.Common.{◌≡◌, ◌++◌, take}
use Rattle.task_instances.proofs.facts.objects.add_objects.Given as goal

abbrev pub invariant-loop-object : goal.invariant-loop-object
invariant-loop-object l = l.objects.items ≡ l.fn.objects.items ++ take l.object-index l.declared
