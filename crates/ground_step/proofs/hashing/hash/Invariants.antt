use Rattle.std.proofs.Common.{◌≡◌, drop}
use Rattle.ground_step.specs.Hash.{mixed}
use Rattle.ground_step.proofs.hashing.hash.Given as goal

abbrev pub invariant-loop-word : goal.invariant-loop-word
invariant-loop-word l = mixed l.mixed (drop l.word-index l.word-items) ≡ mixed 0 l.state
