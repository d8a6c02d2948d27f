-- All words are 0 but the upper words before this id.
use Rattle.word_table.proofs.Filling.{AreEmpty}
use Rattle.word_table.proofs.making.empty_words.Given as goal

abbrev pub invariant-loop-id : goal.invariant-loop-id
invariant-loop-id l = AreEmpty l.layout l.quit l.id l.words.items
