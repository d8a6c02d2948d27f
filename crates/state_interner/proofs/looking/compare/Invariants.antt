-- The words before this place are those of the state.
use Rattle.state_interner.proofs.Words.{Compares}
use Rattle.state_interner.proofs.looking.compare.Given as goal

abbrev pub invariant-loop-place : goal.invariant-loop-place
invariant-loop-place l = Compares l.fn.pass l.pass l.id l.state l.place
