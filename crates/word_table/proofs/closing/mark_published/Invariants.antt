-- The ids of the buckets so far are marked.
use Rattle.std.specs.Mem.Slots.{slots_items}
use Rattle.word_table.specs.Closed.{AreMarked}
use Rattle.word_table.proofs.closing.mark_published.Given as goal

abbrev pub invariant-loop-bucket : goal.invariant-loop-bucket
invariant-loop-bucket l = AreMarked l.layout (slots_items l.closed.words) l.bucket l.published.items
