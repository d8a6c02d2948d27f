use Rattle.std.proofs.Common.{◌≡◌, drop}
use Rattle.certificate.specs.Numbering.{filled, table_of}
use Rattle.plan_report.specs.certificates.Kept.{act_names}
use Rattle.plan_report.specs.certificates.Tables.{AreTaken}
use Rattle.plan_report.proofs.certificates.acts.acts_table.Given as goal

abbrev pub invariant-loop-row : goal.invariant-loop-row
invariant-loop-row l = record {
  taken : AreTaken l.problem l.taken.items l.names.keys;
  filled : filled l.names.keys (act_names l.problem (drop l.row-index l.rows)) ≡ table_of (act_names l.problem l.rows);
}
