use Rattle.std.proofs.Common.{◌≡◌}
use Rattle.ppddl_cursor.specs.Ahead.{size}
use Rattle.ppddl_cursor.specs.Reading.{all_at}
use Rattle.ppddl_reader.specs.tasks.Texts.{definitions}
use Rattle.ppddl_reader.proofs.tasks.definitions.read_definitions.Given as goal

abbrev pub decreases-loop-alloc : goal.decreases-loop-alloc
decreases-loop-alloc l = size l.cursor

abbrev pub invariant-loop-alloc : goal.invariant-loop-alloc
invariant-loop-alloc l = all_at (definitions l.draft) l.cursor ≡ all_at (definitions l.fn.draft) l.fn.cursor
