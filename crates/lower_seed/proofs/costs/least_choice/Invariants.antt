-- The least of the greatest cost and those of the actions so far.
use Rattle.std.proofs.Common.{◌≡◌, take, flat_map}
use Rattle.ground_model.specs.declared.limits.TheConstants.{MOST_CHOICE_COST}
use Rattle.lower_seed.specs.Costs.{costs_of}
use Rattle.lower_seed.proofs.LeastCosts.{least_from}
use Rattle.lower_seed.proofs.costs.least_choice.Given as goal

abbrev pub invariant-loop-action : goal.invariant-loop-action
invariant-loop-action l = l.least ≡ least_from MOST_CHOICE_COST (flat_map costs_of (take l.action-index l.action-items))
