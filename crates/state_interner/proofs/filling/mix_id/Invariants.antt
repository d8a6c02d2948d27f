-- Nothing but words of states is noted.
use Rattle.state_interner.specs.Turns.{NotesWords}
use Rattle.state_interner.proofs.filling.mix_id.Given as goal

abbrev pub invariant-loop-place : goal.invariant-loop-place
invariant-loop-place l = NotesWords l.fn.pass l.pass
