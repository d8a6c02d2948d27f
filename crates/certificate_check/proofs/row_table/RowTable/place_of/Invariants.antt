use Rattle.certificate_check.proofs.Buckets.{IsSearch}
use Rattle.certificate_check.proofs.row_table.RowTable.place_of.Given as goal

abbrev pub invariant-loop-number : goal.invariant-loop-number
invariant-loop-number l = IsSearch l.self l.state l.number

abbrev pub decreases-loop-number : goal.decreases-loop-number
decreases-loop-number l = l.number
