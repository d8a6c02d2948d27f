use Rattle.std.proofs.Common.{◌≡◌}
use Rattle.ppddl_forms.specs.objects.Objects.{all_typed}
use Rattle.ppddl_forms.proofs.objects.add_objects.Given as goal

abbrev pub invariant-loop-name : goal.invariant-loop-name
invariant-loop-name l = all_typed l.names l.kind l.typed l.name-iterator.rest.items ≡ all_typed l.names l.kind l.fn.typed l.fn.waiting.items
