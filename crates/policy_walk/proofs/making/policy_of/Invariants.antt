use Rattle.std.proofs.Common.{◌≤◌, drop, length}
use Rattle.policy_walk.specs.Tables.{AreTablesOf, HasRows}
use Rattle.policy_walk.proofs.making.policy_of.Given as goal

-- the rows from here on stand in the table
abbrev pub invariant-loop-place : goal.invariant-loop-place
invariant-loop-place l =
    (l.place ≤ length l.fn.certificate.rows)
    × AreTablesOf l.fn.problem l.fn.certificate l.tables
    × HasRows l.fn.problem l.fn.certificate (drop l.place l.fn.certificate.rows) l.acts.entries

abbrev pub decreases-loop-place : goal.decreases-loop-place
decreases-loop-place l = l.place
