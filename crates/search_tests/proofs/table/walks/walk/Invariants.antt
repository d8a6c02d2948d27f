-- The pass may claim an id.
use Rattle.search_tests.specs.Steps.{CanWalk}
use Rattle.search_tests.proofs.table.walks.walk.Given as goal

abbrev pub invariant-loop-number : goal.invariant-loop-number
invariant-loop-number l = CanWalk l.words l.walker.pass
