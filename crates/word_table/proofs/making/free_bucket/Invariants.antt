-- The buckets of the turns so far are taken.
use Rattle.word_table.specs.Made.{AllTaken}
use Rattle.word_table.proofs.making.free_bucket.Given as goal

abbrev pub invariant-loop-turn : goal.invariant-loop-turn
invariant-loop-turn l = AllTaken l.fn.layout l.fn.words l.fn.hash l.turn
