use Rattle.std.proofs.Common.{◌≡◌, ◌≤◌, ◌++◌}
use Rattle.ppddl_cursor.specs.Ahead.{size}
use Rattle.ppddl_cursor.specs.Reading.{rest_at}
use Rattle.ppddl_reader.specs.sections.Apart.{AreApart}
use Rattle.ppddl_reader.specs.sections.Starts.{no_items, start_behind}
use Rattle.ppddl_reader.proofs.sections.start.read_start.Given as goal

abbrev pub decreases-loop-alloc : goal.decreases-loop-alloc
decreases-loop-alloc l = size l.cursor

abbrev pub invariant-loop-alloc : goal.invariant-loop-alloc
invariant-loop-alloc l = record {
  reads : rest_at (start_behind l.names (record { items = l.facts.items ++ l.chances.items; values = l.values })) l.cursor ≡ rest_at (start_behind l.names no_items) l.fn.cursor;
  apart : AreApart l.facts.items l.chances.items;
  fewer : size l.cursor ≤ size l.fn.cursor;
}
