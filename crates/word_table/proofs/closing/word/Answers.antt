use Rattle.std.specs.Mem.Slots.{slots_items}
use Rattle.word_table.proofs.Ending.{word_at}
use Rattle.word_table.proofs.closing.word.Goals as goal

pub returns : goal.returns
returns c = word_at (slots_items c.args.closed.now.words) c.args.place c.word.result c.word.ensures
