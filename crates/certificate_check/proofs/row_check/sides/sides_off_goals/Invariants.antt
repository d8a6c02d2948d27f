use Rattle.std.proofs.Common.{◌≡◌, length, take}
use Rattle.certificate_check.proofs.lemmas.row_check.Rows.{SidesAmong}
use Rattle.certificate_check.proofs.row_check.sides.sides_off_goals.Given as goal

abbrev pub invariant-loop-code : goal.invariant-loop-code
invariant-loop-code g l = record {
  long : length l.next ≡ length l.state;
  among : SidesAmong l.problem (g.R.Reading.low l.reading) (g.R.Reading.high l.reading) l.state l.claim.act
      (take l.code-index l.codes) l.sides;
}
