use Rattle.std.proofs.Common.{◌≡◌, ◌≤◌, ◌∷◌, []}
use Rattle.ppddl_cursor.specs.Ahead.{size}
use Rattle.ppddl_cursor.specs.Reading.{rest_at}
use Rattle.ppddl_forms.specs.Variables.{type_names}
use Rattle.ppddl_forms.proofs.variables.read_type_names.Given as goal

abbrev pub decreases-loop-alloc : goal.decreases-loop-alloc
decreases-loop-alloc l = size l.cursor

abbrev pub invariant-loop-alloc : goal.invariant-loop-alloc
invariant-loop-alloc l = record {
  reads : rest_at (type_names l.names l.kinds.items) l.cursor ≡ rest_at (type_names l.names (l.fn.first ∷ [])) l.fn.cursor;
  fewer : size l.cursor ≤ size l.fn.cursor;
}
