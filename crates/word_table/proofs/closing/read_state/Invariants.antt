-- The words before this place are read.
use Rattle.std.proofs.Common.{◌≡◌, ◌<◌, ℕ}
use Rattle.std.specs.Prelude.{get_or, length}
use Rattle.std.specs.Mem.Slots.{slots_items}
use Rattle.word_table.specs.layout.Places.{state_at}
use Rattle.word_table.specs.rule.Words.{word}
use Rattle.word_table.proofs.closing.read_state.Given as goal

abbrev pub invariant-loop-place : goal.invariant-loop-place
invariant-loop-place l = (length l.state ≡ l.layout.width)
    × ((k : ℕ) → k < l.place → get_or l.state k 0 ≡ word (slots_items l.closed.words) (state_at l.layout l.id k))
