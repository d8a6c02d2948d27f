use Rattle.std.specs.Mem.Slots.{slots_items}
use Rattle.word_table.proofs.closing.read_image.Goals as goal

pub mark_published-published-requires-clause-none : goal.mark_published-published-requires-clause-none
mark_published-published-requires-clause-none c = c.requires.room.marks (slots_items c.args.closed.now.words)
