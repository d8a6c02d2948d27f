use Rattle.std.proofs.Common.{◌≡◌, drop}
use Rattle.std.specs.List.{list_any}
use Rattle.grounder.specs.costs.Charges.{any_decreases}
use Rattle.grounder.proofs.costs.base.any_decreases.Given as goal

abbrev pub invariant-loop-action : goal.invariant-loop-action
invariant-loop-action l = list_any any_decreases (drop l.action-index l.actions) ≡ list_any any_decreases l.actions
