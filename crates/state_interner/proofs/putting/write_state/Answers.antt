-- At first nothing is written.
use Rattle.std.proofs.Common.{refl, arith}
use Rattle.state_interner.proofs.putting.write_state.Goals as goal

pub loop-place-init : goal.loop-place-init
loop-place-init c = record { seen = (c.args.pass.now.view.draft, refl); same = λ p below. absurd (omega arith) }
