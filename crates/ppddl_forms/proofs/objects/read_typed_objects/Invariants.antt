use Rattle.std.proofs.Common.{◌≡◌, ◌≤◌, []}
use Rattle.ppddl_cursor.specs.Ahead.{size}
use Rattle.ppddl_cursor.specs.Reading.{rest_at}
use Rattle.ppddl_forms.specs.objects.Objects.{objects_behind}
use Rattle.ppddl_forms.proofs.objects.read_typed_objects.Given as goal

abbrev pub decreases-loop-cursor : goal.decreases-loop-cursor
decreases-loop-cursor l = size l.cursor

abbrev pub invariant-loop-cursor : goal.invariant-loop-cursor
invariant-loop-cursor l = record {
  reads : rest_at (objects_behind l.names l.typed l.waiting.items) l.cursor ≡ rest_at (objects_behind l.names l.fn.typed []) l.fn.cursor;
  fewer : size l.cursor ≤ size l.fn.cursor;
}
