use Rattle.certificate_check.specs.Pass.{HasRoomFor, low_of, high_of}
use Rattle.certificate_check.specs.Verdicts.{AreSoundBefore}
use Rattle.certificate_check.proofs.rows.rows_verdict.Given as goal

abbrev pub invariant-loop-place : goal.invariant-loop-place
invariant-loop-place l = record {
  sound : AreSoundBefore l.table.problem l.table.certificate (low_of l.table) (high_of l.table) l.place;
  room : HasRoomFor l.table.problem l.room;
}
