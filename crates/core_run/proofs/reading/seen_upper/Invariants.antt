-- The word so far with those of the entries that are left.
use Rattle.std.proofs.Common.{◌≡◌, ◌≤◌, drop, min}
use Rattle.bound_core.specs.Shown.{seen_upper_in}
use Rattle.core_run.proofs.reading.seen_upper.Given as goal

abbrev pub invariant-loop-entry : goal.invariant-loop-entry
invariant-loop-entry l = record {
  bounded : l.upper ≤ l.first;
  rest : min l.upper (seen_upper_in l.board.ids.items l.first (drop l.entry-index l.seen) l.state)
      ≡ seen_upper_in l.board.ids.items l.first l.seen l.state;
}
