use Rattle.std.proofs.Common.{◌≡◌, take}
use Rattle.brtdp_trial.specs.Listed.{steps_to}
use Rattle.brtdp_trial.proofs.backing.read.Given as goal

abbrev pub invariant-loop-outcome : goal.invariant-loop-outcome
invariant-loop-outcome l = l.steps ≡ steps_to l.states l.numbers (take l.outcome-index l.outcomes)
