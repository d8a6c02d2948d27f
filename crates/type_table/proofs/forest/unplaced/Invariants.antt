use Rattle.type_table.specs.Forest.{AreUnplaced}
use Rattle.type_table.proofs.forest.unplaced.Given as goal

abbrev pub invariant-loop-kind : goal.invariant-loop-kind
invariant-loop-kind l = AreUnplaced l._kind l.ranks.items
