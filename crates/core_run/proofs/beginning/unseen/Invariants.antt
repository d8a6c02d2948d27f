-- The entries of the first ids.
use Rattle.std.proofs.Common.{◌≡◌}
use Rattle.core_run.specs.Began.{unseen}
use Rattle.core_run.proofs.beginning.unseen.Given as goal

abbrev pub invariant-loop-id : goal.invariant-loop-id
invariant-loop-id l = l.entries.items ≡ unseen l.id
