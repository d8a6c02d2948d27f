-- The rows that are left have the state exactly where one of all has.
use Rattle.std.proofs.Common.{◌≡◌, drop}
use Rattle.core_run.specs.Decided.{is_taken}
use Rattle.core_run.proofs.publishing.is_taken.Given as goal

abbrev pub invariant-loop-place : goal.invariant-loop-place
invariant-loop-place l =
    is_taken l.problem (drop l.place l.row-items) l.state ≡ is_taken l.problem l.board.ids.items l.state
