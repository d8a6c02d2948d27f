use Rattle.std.proofs.Common.{◌≡◌, take}
use Rattle.certificate_check.specs.Claims.{numbered}
use Rattle.policy_walk.proofs.tables.atom_numbers.Given as goal

abbrev pub invariant-loop-text : goal.invariant-loop-text
invariant-loop-text l = l.numbers.items ≡ numbered l.problem.atoms (take l.text-index l.texts)
