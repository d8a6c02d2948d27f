use Rattle.std.proofs.Common.{◌≡◌, take}
use Rattle.plan_report.specs.certificates.Kept.{kept_rows}
use Rattle.plan_report.proofs.certificates.kept.kept_rows.Given as goal

abbrev pub invariant-loop-row : goal.invariant-loop-row
invariant-loop-row l = l.kept.items ≡ kept_rows l.problem (take l.row-index l.rows)
