use Rattle.std.proofs.Common.{◌≡◌, ◌≤◌, false}
use Rattle.ppddl_cursor.specs.Ahead.{size}
use Rattle.ppddl_cursor.specs.Reading.{rest_at}
use Rattle.ppddl_reader.specs.sections.Predicates.{listed_so, functions_behind}
use Rattle.ppddl_reader.proofs.sections.functions.read_functions.Given as goal

abbrev pub decreases-loop-alloc : goal.decreases-loop-alloc
decreases-loop-alloc l = size l.cursor

abbrev pub invariant-loop-alloc : goal.invariant-loop-alloc
invariant-loop-alloc l = record {
  reads : rest_at (functions_behind (listed_so l.names l.wait)) l.cursor ≡ rest_at (functions_behind (listed_so l.fn.names false)) l.fn.cursor;
  fewer : size l.cursor ≤ size l.fn.cursor;
}
