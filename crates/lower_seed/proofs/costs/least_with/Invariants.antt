-- The least of the cost and those of the choices so far.
use Rattle.std.proofs.Common.{◌≡◌, take, map}
use Rattle.ground_model.specs.declared.action.Choice.{Choice}
use Rattle.lower_seed.proofs.LeastCosts.{least_from}
use Rattle.lower_seed.proofs.costs.least_with.Given as goal

abbrev pub invariant-loop-choice : goal.invariant-loop-choice
invariant-loop-choice l = l.found ≡ least_from l.least (map (λ (c : Choice). c.cost) (take l.choice-index l.choice-items))
