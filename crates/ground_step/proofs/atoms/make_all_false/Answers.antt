-- All words are 0.
use Rattle.std.proofs.Common.{arith, length}
use Rattle.ground_step.proofs.Packed.{zeros_are_packed}
use Rattle.ground_step.proofs.atoms.make_all_false.Goals as goal

pub returns : goal.returns
returns c =
    zeros_are_packed c.loop-place.state (length c.args.state.now) c.loop-place.invariant.0
    (λ k within. c.loop-place.invariant.2 k (omega arith))
