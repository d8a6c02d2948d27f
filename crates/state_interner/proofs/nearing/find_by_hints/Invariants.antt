-- The pass has gone on.
use Rattle.std.proofs.Common.{◌≡◌}
use Rattle.state_interner.specs.Interned.{GoesOn}
use Rattle.state_interner.proofs.nearing.find_by_hints.Given as goal

abbrev pub invariant-loop-turn : goal.invariant-loop-turn
invariant-loop-turn l = GoesOn l.words l.fn.pass l.pass × (l.pass.view.spare ≡ l.fn.pass.view.spare)
