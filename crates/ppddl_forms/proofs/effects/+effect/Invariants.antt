use Rattle.std.proofs.Common.{◌≡◌, ◌≤◌, ◌*◌, ◌+◌}
use Rattle.ppddl_cursor.specs.Ahead.{size}
use Rattle.ppddl_cursor.specs.Reading.{rest_at}
use Rattle.ppddl_forms.specs.Sequences.{many_behind}
use Rattle.ppddl_forms.specs.Effects.{chances_of, effect, effects, branches}
use Rattle.ppddl_forms.proofs.effects.+effect.Given as goal

abbrev pub decreases-read_effect : goal.decreases-read_effect
decreases-read_effect l = 3 * size l.cursor.now

abbrev pub decreases-read_effect_in : goal.decreases-read_effect_in
decreases-read_effect_in l = 3 * size l.cursor.now

abbrev pub decreases-read_effects : goal.decreases-read_effects
decreases-read_effects l = 3 * size l.cursor.now + 2

abbrev pub decreases-read_boxed_effect : goal.decreases-read_boxed_effect
decreases-read_boxed_effect l = 3 * size l.cursor.now + 1

abbrev pub decreases-read_effect_under : goal.decreases-read_effect_under
decreases-read_effect_under l = 3 * size l.cursor.now + 2

abbrev pub decreases-read_for_all : goal.decreases-read_for_all
decreases-read_for_all l = 3 * size l.cursor.now + 2

abbrev pub decreases-read_conditional : goal.decreases-read_conditional
decreases-read_conditional l = 3 * size l.cursor.now + 2

abbrev pub decreases-read_more_branches : goal.decreases-read_more_branches
decreases-read_more_branches l = 3 * size l.cursor.now + 1

abbrev pub decreases-read_branches : goal.decreases-read_branches
decreases-read_branches l = 3 * size l.cursor.now + 2

abbrev pub decreases-read_effects-loop-alloc : goal.decreases-read_effects-loop-alloc
decreases-read_effects-loop-alloc l = size l.cursor

abbrev pub invariant-read_effects-loop-alloc : goal.invariant-read_effects-loop-alloc
invariant-read_effects-loop-alloc l = record {
  reads : rest_at (many_behind (effect l.names l.fn.scope) l.parts.items) l.cursor ≡ rest_at (effects l.names l.fn.scope) l.fn.cursor;
  fewer : size l.cursor ≤ size l.fn.cursor;
  scope : l.scope ≡ l.fn.scope;
}

abbrev pub decreases-read_more_branches-loop-alloc : goal.decreases-read_more_branches-loop-alloc
decreases-read_more_branches-loop-alloc l = size l.cursor

abbrev pub invariant-read_more_branches-loop-alloc : goal.invariant-read_more_branches-loop-alloc
invariant-read_more_branches-loop-alloc l = record {
  reads : rest_at (branches l.names l.fn.scope l.seen.items) l.cursor ≡ rest_at (branches l.names l.fn.scope l.fn.seen.items) l.fn.cursor;
  chances : l.chances ≡ chances_of l.seen.items;
  fewer : size l.cursor ≤ size l.fn.cursor;
  scope : l.scope ≡ l.fn.scope;
}
