use Rattle.std.proofs.Common.{◌≡◌}
use Rattle.ppddl_reader.specs.sections.Types.{all_under}
use Rattle.ppddl_reader.proofs.sections.type_list.push_all_under.Given as goal

abbrev pub invariant-loop-name : goal.invariant-loop-name
invariant-loop-name l = all_under l.parent l.done.items l.name-iterator.rest.items ≡ all_under l.parent l.fn.done.items l.fn.names.items
