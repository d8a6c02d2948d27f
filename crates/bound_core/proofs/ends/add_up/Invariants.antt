-- The starts so far are added up.
use Rattle.std.proofs.Common.{take}
use Rattle.bound_core.specs.ends.Sums.{AreSums}
use Rattle.bound_core.proofs.ends.add_up.Given as goal

abbrev pub invariant-loop-place : goal.invariant-loop-place
invariant-loop-place l = AreSums l.problem l.rows (take l.place l.start-items) l.sums
