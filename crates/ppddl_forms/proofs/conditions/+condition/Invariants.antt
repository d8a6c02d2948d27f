use Rattle.std.proofs.Common.{◌≡◌, ◌≤◌, ◌*◌, ◌+◌}
use Rattle.ppddl_cursor.specs.Ahead.{size}
use Rattle.ppddl_cursor.specs.Reading.{rest_at}
use Rattle.ppddl_forms.specs.Sequences.{many_behind}
use Rattle.ppddl_forms.specs.Conditions.{condition, conditions}
use Rattle.ppddl_forms.proofs.conditions.+condition.Given as goal

abbrev pub decreases-read_condition : goal.decreases-read_condition
decreases-read_condition l = 3 * size l.cursor.now

abbrev pub decreases-read_condition_in : goal.decreases-read_condition_in
decreases-read_condition_in l = 3 * size l.cursor.now

abbrev pub decreases-read_boxed_condition : goal.decreases-read_boxed_condition
decreases-read_boxed_condition l = 3 * size l.cursor.now + 1

abbrev pub decreases-read_negation : goal.decreases-read_negation
decreases-read_negation l = 3 * size l.cursor.now + 2

abbrev pub decreases-read_implication : goal.decreases-read_implication
decreases-read_implication l = 3 * size l.cursor.now + 2

abbrev pub decreases-read_condition_under : goal.decreases-read_condition_under
decreases-read_condition_under l = 3 * size l.cursor.now + 2

abbrev pub decreases-read_quantified : goal.decreases-read_quantified
decreases-read_quantified l = 3 * size l.cursor.now + 2

abbrev pub decreases-read_conditions : goal.decreases-read_conditions
decreases-read_conditions l = 3 * size l.cursor.now + 2

abbrev pub decreases-read_conditions-loop-alloc : goal.decreases-read_conditions-loop-alloc
decreases-read_conditions-loop-alloc l = size l.cursor

abbrev pub invariant-read_conditions-loop-alloc : goal.invariant-read_conditions-loop-alloc
invariant-read_conditions-loop-alloc l = record {
  reads : rest_at (many_behind (condition l.names l.fn.scope) l.parts.items) l.cursor ≡ rest_at (conditions l.names l.fn.scope) l.fn.cursor;
  fewer : size l.cursor ≤ size l.fn.cursor;
  scope : l.scope ≡ l.fn.scope;
}
