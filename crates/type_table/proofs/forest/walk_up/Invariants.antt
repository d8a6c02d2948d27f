use Rattle.std.proofs.Common.{◌-◌, length, nat_eq}
use Rattle.std.specs.List.{IsDistinct}
use Rattle.type_table.specs.Forest.{IsPathTo}
use Rattle.type_table.proofs.forest.walk_up.Given as goal

abbrev pub invariant-loop-top : goal.invariant-loop-top
invariant-loop-top l = IsPathTo l.parents l.kind l.path.keys l.top × IsDistinct nat_eq l.path.keys

abbrev pub decreases-loop-top : goal.decreases-loop-top
decreases-loop-top l = length l.parents - length l.path.keys
