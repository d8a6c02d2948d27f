use Rattle.std.proofs.Common.{◌≡◌, take}
use Rattle.certificate_check.specs.Claims.{numbers_of}
use Rattle.policy_walk.proofs.row_state.take_numbers.Given as goal

abbrev pub invariant-loop-atom : goal.invariant-loop-atom
invariant-loop-atom l = l.into.items ≡ numbers_of l.numbers (take l.atom-index l.atoms)
