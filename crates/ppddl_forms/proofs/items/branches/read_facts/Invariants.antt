use Rattle.std.proofs.Common.{◌≡◌, ◌≤◌, []}
use Rattle.ppddl_cursor.specs.Ahead.{size}
use Rattle.ppddl_cursor.specs.Reading.{rest_at}
use Rattle.ppddl_forms.specs.Sequences.{many_behind}
use Rattle.ppddl_forms.specs.Terms.{atom}
use Rattle.ppddl_forms.proofs.items.branches.read_facts.Given as goal

abbrev pub decreases-loop-alloc : goal.decreases-loop-alloc
decreases-loop-alloc l = size l.cursor

abbrev pub invariant-loop-alloc : goal.invariant-loop-alloc
invariant-loop-alloc l = record {
  reads : rest_at (many_behind (atom l.names []) l.atoms.items) l.cursor ≡ rest_at (many_behind (atom l.names []) []) l.fn.cursor;
  fewer : size l.cursor ≤ size l.fn.cursor;
}
