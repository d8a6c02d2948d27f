use Rattle.std.proofs.Common.{◌≡◌, take}
use Rattle.std.specs.List.{AllZip}
use Rattle.type_table.specs.Types.{type_names}
use Rattle.type_table.specs.Reading.{IsLinkOf}
use Rattle.type_table.proofs.link.links.Given as goal

abbrev pub invariant-loop-declared : goal.invariant-loop-declared
invariant-loop-declared l = record {
  names : l.names ≡ type_names (take l.declared-index l.types);
  links : AllZip (IsLinkOf l.names) l.links.items (take l.declared-index l.types);
}
