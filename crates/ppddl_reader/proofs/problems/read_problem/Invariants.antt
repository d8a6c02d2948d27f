use Rattle.std.proofs.Common.{◌≡◌, ◌≤◌}
use Rattle.ppddl_cursor.specs.Ahead.{size}
use Rattle.ppddl_cursor.specs.Reading.{rest_at}
use Rattle.ppddl_reader.specs.problems.Problems.{no_sections, sections}
use Rattle.ppddl_reader.proofs.problems.read_problem.Given as goal

abbrev pub decreases-loop-cursor : goal.decreases-loop-cursor
decreases-loop-cursor l = size l.cursor

abbrev pub invariant-loop-cursor : goal.invariant-loop-cursor
invariant-loop-cursor l = record {
  reads : rest_at (sections l.name l.domain (l.draft, l.names)) l.cursor ≡ rest_at (sections l.fn.name l.fn.domain (no_sections, l.fn.names)) l.fn.cursor;
  fewer : size l.cursor ≤ size l.fn.cursor;
}
