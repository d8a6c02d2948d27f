-- The prices of the atoms so far are put.
use Rattle.std.proofs.Common.{◌≡◌, length}
use Rattle.ground_model.specs.Packed.{has_bit}
use Rattle.relaxed_seed.proofs.Passes.{ArePutUpTo}
use Rattle.relaxed_seed.proofs.relaxed.put_first_prices.Given as goal

abbrev pub invariant-loop-atom : goal.invariant-loop-atom
invariant-loop-atom l = (length l.prices ≡ length l.fn.prices) × ArePutUpTo (has_bit l.state) l.problem.penalty l.prices l.atom
