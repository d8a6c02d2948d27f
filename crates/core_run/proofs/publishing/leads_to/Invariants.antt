-- The actions that are left lead to the target exactly where all do.
use Rattle.std.proofs.Common.{◌≡◌, drop, length}
use Rattle.std.specs.List.{list_any}
use Rattle.core_run.specs.Decided.{has_next}
use Rattle.core_run.proofs.publishing.leads_to.Given as goal

abbrev pub invariant-loop-action : goal.invariant-loop-action
invariant-loop-action l = record {
  fits : length l.next ≡ length l.state;
  rest : list_any (has_next l.problem l.state l.target) (drop l.action-index l.action-items)
      ≡ list_any (has_next l.problem l.state l.target) l.problem.actions;
}
