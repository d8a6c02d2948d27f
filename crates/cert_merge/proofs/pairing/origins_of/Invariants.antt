-- The rows so far, and those of what is left.
use Rattle.std.proofs.Common.{◌≡◌, ◌+◌, ◌-◌, ◌≤◌, ◌++◌, length, map}
use Rattle.std.specs.List.{All}
use Rattle.cert_merge.specs.Pairs.{row_of, left, merged_of, IsOriginOf}
use Rattle.cert_merge.proofs.pairing.origins_of.Given as goal

abbrev pub invariant-loop-i : goal.invariant-loop-i
invariant-loop-i l = record {
  first : l.i ≤ length l.first.rows;
  second : l.j ≤ length l.second.rows;
  rows : map (row_of l.first l.second) l.origins.items ++ left l.first l.second l.i l.j ≡ merged_of l.first l.second;
  within : All (IsOriginOf l.first l.second) l.origins.items;
}

abbrev pub decreases-loop-i : goal.decreases-loop-i
decreases-loop-i l = (length l.first.rows + length l.second.rows) - (l.i + l.j)
