use Rattle.std.proofs.Common.{◌≡◌}
use Rattle.applicable_actions.proofs.requirements.add_literal.Given as goal

abbrev pub invariant-loop-k : goal.invariant-loop-k
invariant-loop-k l = l.tests.items ≡ l.fn.tests.items
