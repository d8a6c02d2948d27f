use Rattle.std.proofs.Common.{◌≡◌}
use Rattle.certificate_check.proofs.lemmas.row_check.Totals.{IsValueOf}
use Rattle.certificate_check.proofs.row_check.sums.start_sums.Given as goal

abbrev pub invariant-loop-start : goal.invariant-loop-start
invariant-loop-start g l = record {
  same : l.start-items ≡ l.problem.starts;
  lower : IsValueOf (g.R.Reading.low l.reading) l.start-items l.start-index l.lower;
  upper : IsValueOf (g.R.Reading.high l.reading) l.start-items l.start-index l.upper;
}
