-- The actions that are left allow the value exactly where all do.
use Rattle.std.proofs.Common.{◌≡◌, drop, length}
use Rattle.std.specs.List.{list_all}
use Rattle.bound_core.specs.Shown.{seen_lower_in}
use Rattle.core_run.specs.Decided.{stays_below}
use Rattle.core_run.proofs.allowing.can_raise.Given as goal

abbrev pub invariant-loop-action : goal.invariant-loop-action
invariant-loop-action l = record {
  fits : length l.next ≡ length l.state;
  rest : list_all (stays_below l.problem (seen_lower_in l.board.ids.items l.seen) l.state l.value) (drop l.action-index l.action-items)
      ≡ list_all (stays_below l.problem (seen_lower_in l.board.ids.items l.seen) l.state l.value) l.problem.actions;
}
