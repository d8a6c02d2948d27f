use Rattle.std.proofs.Common.{◌≡◌, take}
use Rattle.std.specs.Prelude.{sum}
use Rattle.brtdp_trial.specs.Meaning.{spreads}
use Rattle.brtdp_trial.proofs.sums.total_of.Given as goal

abbrev pub invariant-loop-i : goal.invariant-loop-i
invariant-loop-i g l = l.total ≡ sum (take l.i (spreads (g.L.HasSteps.list l.steps)))
