use Rattle.std.proofs.Common.{◌≡◌, drop}
use Rattle.std.specs.List.{list_any}
use Rattle.grounder.specs.costs.Charges.{is_free}
use Rattle.grounder.proofs.costs.free.all_cost.Given as goal

abbrev pub invariant-loop-action : goal.invariant-loop-action
invariant-loop-action l =
    list_any (is_free l.task 0) (drop l.action-index l.action-items) ≡ list_any (is_free l.task 0) l.task.domain.actions
