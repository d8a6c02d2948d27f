-- The first atoms are copied, and no other bit is there.
use Rattle.std.proofs.Common.{◌≡◌}
use Rattle.std.specs.Prelude.{nat_lt, ◌&&◌}
use Rattle.ground_model.specs.Packed.{has_bit, packed}
use Rattle.bound_core.specs.Core.{width}
use Rattle.core_run.proofs.publishing.is_inside.Given as goal

abbrev pub invariant-loop-atom : goal.invariant-loop-atom
invariant-loop-atom l =
    l.next ≡ packed (λ q. nat_lt q l.atom && has_bit l.state q) (width l.problem)
