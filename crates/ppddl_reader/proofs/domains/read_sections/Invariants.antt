use Rattle.std.proofs.Common.{◌≡◌, ◌≤◌}
use Rattle.ppddl_cursor.specs.Ahead.{size}
use Rattle.ppddl_cursor.specs.Reading.{rest_at}
use Rattle.ppddl_reader.specs.domains.Domains.{sections}
use Rattle.ppddl_reader.proofs.domains.read_sections.Given as goal

abbrev pub decreases-loop-alloc : goal.decreases-loop-alloc
decreases-loop-alloc l = size l.cursor

abbrev pub invariant-loop-alloc : goal.invariant-loop-alloc
invariant-loop-alloc l = record {
  reads : rest_at (sections (l.draft, l.names)) l.cursor ≡ rest_at (sections (l.fn.draft, l.fn.names)) l.fn.cursor;
  fewer : size l.cursor ≤ size l.fn.cursor;
}
