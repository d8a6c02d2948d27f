-- The buckets of the turns so far hold other states.
use Rattle.state_interner.proofs.Turns.{Walks}
use Rattle.state_interner.proofs.interning.walk.Given as goal

abbrev pub invariant-loop-turn : goal.invariant-loop-turn
invariant-loop-turn l = Walks l.words l.fn.pass l.pass l.state l.turn
