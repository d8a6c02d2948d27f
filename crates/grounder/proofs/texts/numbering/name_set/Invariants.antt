use Rattle.std.proofs.Common.{◌≡◌, take}
use Rattle.grounder.proofs.texts.numbering.name_set.Given as goal

abbrev pub invariant-loop-text : goal.invariant-loop-text
invariant-loop-text l = l.names ≡ take l.text-index l.texts
