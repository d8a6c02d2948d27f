use Rattle.std.proofs.Common.{◌≡◌, ◌++◌}
use Rattle.grounder.proofs.texts.numbering.texts_of_set.Given as goal

abbrev pub invariant-loop-text : goal.invariant-loop-text
invariant-loop-text l = l.texts.items ++ l.text-iterator ≡ l.fn.set.texts
