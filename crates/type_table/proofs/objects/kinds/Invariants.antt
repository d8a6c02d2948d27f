use Rattle.std.proofs.Common.{◌≡◌, take, map}
use Rattle.std.specs.List.{AllZip}
use Rattle.ppddl_model.specs.Objects.{once}
use Rattle.type_table.specs.Reading.{IsKindOf}
use Rattle.type_table.proofs.Once.{object_name}
use Rattle.type_table.proofs.objects.kinds.Given as goal

abbrev pub invariant-loop-object : goal.invariant-loop-object
invariant-loop-object l = record {
  names : l.names ≡ map object_name (once (take l.object-index l.objects));
  kinds : AllZip (IsKindOf l.types) l.kinds.items (once (take l.object-index l.objects));
}
