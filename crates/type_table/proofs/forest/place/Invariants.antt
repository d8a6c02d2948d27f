use Rattle.std.proofs.Common.{length}
use Rattle.type_table.proofs.Placing.{IsDescent}
use Rattle.type_table.proofs.forest.place.Given as goal

abbrev pub invariant-loop-below : goal.invariant-loop-below
invariant-loop-below l = IsDescent l.parents l.fn.ranks.items l.ranks.items l.kind l.path.keys

abbrev pub decreases-loop-below : goal.decreases-loop-below
decreases-loop-below l = length l.path.keys
