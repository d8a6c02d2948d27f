-- The words before this place are written.
use Rattle.word_table.specs.Made.{HasWritten}
use Rattle.word_table.proofs.making.write_state.Given as goal

abbrev pub invariant-loop-place : goal.invariant-loop-place
invariant-loop-place l = HasWritten l.state l.first l.place l.fn.words l.words
