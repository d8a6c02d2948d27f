use Rattle.std.proofs.Common.{◌≡◌, drop}
use Rattle.applicable_actions.specs.Masks.{pass_all}
use Rattle.applicable_actions.proofs.masked.pass_all.Given as goal

abbrev pub invariant-loop-test : goal.invariant-loop-test
invariant-loop-test l = pass_all (drop l.test-index l.tests) l.state ≡ pass_all l.tests l.state
