-- The number so far with those of the entries that are left.
use Rattle.std.proofs.Common.{◌≡◌, drop, max}
use Rattle.bound_core.specs.Shown.{seen_lower_in}
use Rattle.core_run.proofs.reading.seen_lower.Given as goal

abbrev pub invariant-loop-entry : goal.invariant-loop-entry
invariant-loop-entry l =
    max l.lower (seen_lower_in l.board.ids.items (drop l.entry-index l.seen) l.state)
    ≡ seen_lower_in l.board.ids.items l.seen l.state
