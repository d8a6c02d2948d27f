use Rattle.std.proofs.Common.{◌≡◌, ◌≤◌}
use Rattle.ppddl_cursor.specs.Ahead.{size}
use Rattle.ppddl_cursor.specs.Reading.{rest_at}
use Rattle.ppddl_forms.specs.Terms.{arguments}
use Rattle.ppddl_forms.proofs.TermSteps.{Behind}
use Rattle.ppddl_forms.proofs.terms.read_arguments.Given as goal

abbrev pub decreases-loop-alloc : goal.decreases-loop-alloc
decreases-loop-alloc l = size l.cursor

abbrev pub invariant-loop-alloc : goal.invariant-loop-alloc
invariant-loop-alloc l = record {
  reads : rest_at (Behind l.names l.scope l.params l.args.items) l.cursor ≡ rest_at (arguments l.names l.scope l.params) l.fn.cursor;
  fewer : size l.cursor ≤ size l.fn.cursor;
}
