use Rattle.std.proofs.Common.{◌≡◌, ◌≤◌}
use Rattle.ppddl_cursor.specs.Ahead.{size}
use Rattle.ppddl_cursor.specs.Reading.{rest_at}
use Rattle.ppddl_reader.specs.sections.Goals.{flags}
use Rattle.ppddl_reader.proofs.sections.goals.read_flags.Given as goal

abbrev pub decreases-loop-cursor : goal.decreases-loop-cursor
decreases-loop-cursor l = size l.cursor

abbrev pub invariant-loop-cursor : goal.invariant-loop-cursor
invariant-loop-cursor l = record {
  reads : rest_at flags l.cursor ≡ rest_at flags l.fn.cursor;
  fewer : size l.cursor ≤ size l.fn.cursor;
}
