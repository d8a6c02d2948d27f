-- The words before this place are written.
use Rattle.state_interner.proofs.Words.{Writes}
use Rattle.state_interner.proofs.putting.write_state.Given as goal

abbrev pub invariant-loop-place : goal.invariant-loop-place
invariant-loop-place l = Writes l.fn.pass l.pass l.state l.place
