use Rattle.std.proofs.Common.{◌≡◌, ◌≤◌, length}
use Rattle.ppddl_cursor.specs.Ahead.{size}
use Rattle.ppddl_cursor.specs.Reading.{rest_at}
use Rattle.ppddl_forms.specs.Variables.{variables_behind}
use Rattle.ppddl_forms.proofs.variables.read_more_variables.Given as goal

abbrev pub decreases-loop-cursor : goal.decreases-loop-cursor
decreases-loop-cursor l = size l.cursor

abbrev pub invariant-loop-cursor : goal.invariant-loop-cursor
invariant-loop-cursor l = record {
  reads : rest_at (variables_behind l.names l.seen.keys l.kinds.items) l.cursor ≡ rest_at (variables_behind l.names l.fn.seen.keys l.fn.kinds.items) l.fn.cursor;
  within : length l.kinds.items ≤ length l.seen.keys;
  fewer : size l.cursor ≤ size l.fn.cursor;
}
