-- The entries that are left know the id exactly where all do.
use Rattle.std.proofs.Common.{◌≡◌, drop}
use Rattle.core_run.specs.Merged.{knows_in}
use Rattle.core_run.proofs.reading.knows.Given as goal

abbrev pub invariant-loop-entry : goal.invariant-loop-entry
invariant-loop-entry l = knows_in (drop l.entry-index l.seen) l.id ≡ knows_in l.seen l.id
