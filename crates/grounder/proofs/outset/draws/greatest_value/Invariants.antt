use Rattle.std.proofs.Common.{◌≡◌, max, drop}
use Rattle.grounder.specs.outset.Draws.{greatest_value}
use Rattle.grounder.proofs.outset.draws.greatest_value.Given as goal

abbrev pub invariant-loop-item : goal.invariant-loop-item
invariant-loop-item l = max l.greatest (greatest_value (drop l.item-index l.items)) ≡ greatest_value l.items
