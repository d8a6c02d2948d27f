use Rattle.std.proofs.Common.{◌≡◌, take}
use Rattle.certificate_check.specs.Claims.{numbers_of}
use Rattle.policy_graph.proofs.row_states.numbers_of.Given as goal

abbrev pub invariant-loop-atom : goal.invariant-loop-atom
invariant-loop-atom l = l.own.items ≡ numbers_of l.numbers (take l.atom-index l.atoms)
