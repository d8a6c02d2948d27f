use Rattle.std.proofs.Common.{◌≡◌, ◌≤◌}
use Rattle.ppddl_cursor.specs.Ahead.{size}
use Rattle.ppddl_cursor.specs.Reading.{rest_at}
use Rattle.ppddl_reader.specs.sections.Types.{no_types, types_behind}
use Rattle.ppddl_reader.proofs.sections.types.read_types.Given as goal

abbrev pub decreases-loop-alloc : goal.decreases-loop-alloc
decreases-loop-alloc l = size l.cursor

abbrev pub invariant-loop-alloc : goal.invariant-loop-alloc
invariant-loop-alloc l = record {
  reads : rest_at (types_behind l.names l.list) l.cursor ≡ rest_at (types_behind l.names no_types) l.fn.cursor;
  fewer : size l.cursor ≤ size l.fn.cursor;
}
