use Rattle.std.proofs.Common.{◌≡◌, map, take}
use Rattle.plan_report.specs.certificates.Tables.{numbered_row}
use Rattle.plan_report.proofs.certificates.numbering.numbered_rows.Given as goal

abbrev pub invariant-loop-row : goal.invariant-loop-row
invariant-loop-row l = l.numbered ≡ map (numbered_row l.problem l.places l.acts) (take l.row-index l.rows)
