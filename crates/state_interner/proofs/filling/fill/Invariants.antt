-- The pass has gone on.
use Rattle.std.proofs.Common.{◌≡◌}
use Rattle.state_interner.specs.Interned.{GoesOn}
use Rattle.state_interner.proofs.filling.fill.Given as goal

abbrev pub invariant-loop-bucket : goal.invariant-loop-bucket
invariant-loop-bucket l = GoesOn l.words l.fn.pass l.pass × (l.pass.view.spare ≡ l.fn.pass.view.spare)
