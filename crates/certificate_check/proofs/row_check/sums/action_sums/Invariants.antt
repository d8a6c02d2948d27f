use Rattle.std.proofs.Common.{◌≡◌, length}
use Rattle.certificate_check.proofs.lemmas.row_check.Totals.{IsCostOf}
use Rattle.certificate_check.proofs.row_check.sums.action_sums.Given as goal

abbrev pub invariant-loop-choice : goal.invariant-loop-choice
invariant-loop-choice g l = record {
  same : l.choice-items ≡ l.action.choices;
  long : length l.next ≡ length l.state;
  lower : IsCostOf (g.R.Reading.low l.reading) l.state l.choice-items l.choice-index l.lower;
  upper : IsCostOf (g.R.Reading.high l.reading) l.state l.choice-items l.choice-index l.upper;
}
