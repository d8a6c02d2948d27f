-- So far a count was found, and no id claimed. Each turn finds a greater count.
use Rattle.std.proofs.Common.{◌-◌}
use Rattle.state_interner.proofs.Claims.{Claims}
use Rattle.state_interner.proofs.claiming.take_spare.Given as goal

abbrev pub invariant-loop-from : goal.invariant-loop-from
invariant-loop-from l = Claims l.words l.fn.pass l.pass l.from

abbrev pub decreases-loop-from : goal.decreases-loop-from
decreases-loop-from l = l.ids - l.from
