-- The entries that are left lead to the target exactly where all do.
use Rattle.std.proofs.Common.{◌≡◌, drop, length}
use Rattle.bound_core.specs.Core.{width}
use Rattle.core_run.specs.Decided.{is_reached}
use Rattle.core_run.proofs.publishing.is_reached.Given as goal

abbrev pub invariant-loop-entry : goal.invariant-loop-entry
invariant-loop-entry l = record {
  fits : length l.next ≡ width l.problem;
  rest : is_reached l.problem l.board.ids.items (drop l.entry-index l.seen) l.target
      ≡ is_reached l.problem l.board.ids.items l.seen l.target;
}
