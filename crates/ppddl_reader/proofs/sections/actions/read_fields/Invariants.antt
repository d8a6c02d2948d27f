use Rattle.std.proofs.Common.{◌≡◌, ◌≤◌}
use Rattle.ppddl_cursor.specs.Ahead.{size}
use Rattle.ppddl_cursor.specs.Reading.{rest_at}
use Rattle.ppddl_reader.specs.sections.Actions.{fields}
use Rattle.ppddl_reader.proofs.sections.actions.read_fields.Given as goal

abbrev pub decreases-loop-alloc : goal.decreases-loop-alloc
decreases-loop-alloc l = size l.cursor

abbrev pub invariant-loop-alloc : goal.invariant-loop-alloc
invariant-loop-alloc l = record {
  reads : rest_at (fields l.names l.draft) l.cursor ≡ rest_at (fields l.names l.fn.draft) l.fn.cursor;
  fewer : size l.cursor ≤ size l.fn.cursor;
}
