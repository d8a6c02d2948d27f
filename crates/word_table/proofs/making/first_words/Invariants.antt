-- The states before this place are published.
use Rattle.std.proofs.Common.{take}
use Rattle.word_table.specs.rule.Made.{AreMade}
use Rattle.word_table.proofs.making.first_words.Given as goal

abbrev pub invariant-loop-id : goal.invariant-loop-id
invariant-loop-id l = AreMade l.problem l.layout (take l.id l.states) l.words.items
