use Rattle.std.proofs.Common.{◌≡◌, drop}
use Rattle.std.specs.List.{find}
use Rattle.grounder.specs.costs.Charges.{is_free}
use Rattle.grounder.proofs.costs.free.first_free.Given as goal

abbrev pub invariant-loop-action : goal.invariant-loop-action
invariant-loop-action l =
    find (is_free l.facts l.base) (drop l.action-index l.action-items) ≡ find (is_free l.facts l.base) l.facts.domain.actions
