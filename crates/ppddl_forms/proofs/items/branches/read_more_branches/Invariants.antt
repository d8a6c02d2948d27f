use Rattle.std.proofs.Common.{◌≡◌, ◌≤◌}
use Rattle.ppddl_cursor.specs.Ahead.{size}
use Rattle.ppddl_cursor.specs.Reading.{rest_at}
use Rattle.ppddl_forms.specs.items.Items.{chances_of, branches}
use Rattle.ppddl_forms.proofs.items.branches.read_more_branches.Given as goal

abbrev pub decreases-loop-alloc : goal.decreases-loop-alloc
decreases-loop-alloc l = size l.cursor

abbrev pub invariant-loop-alloc : goal.invariant-loop-alloc
invariant-loop-alloc l = record {
  reads : rest_at (branches l.names l.seen.items) l.cursor ≡ rest_at (branches l.names l.fn.seen.items) l.fn.cursor;
  chances : l.chances ≡ chances_of l.seen.items;
  fewer : size l.cursor ≤ size l.fn.cursor;
}
