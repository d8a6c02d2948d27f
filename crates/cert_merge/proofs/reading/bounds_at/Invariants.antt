-- No row so far is of the state.
use Rattle.std.proofs.Common.{◌≡◌, length, drop}
use Rattle.certificate_check.specs.Claims.{rows_of}
use Rattle.decision_process.specs.Readings.{row_at}
use Rattle.ground_model.specs.Packed.{same_state, words_for}
use Rattle.cert_merge.specs.Drafts.{own}
use Rattle.cert_merge.proofs.reading.bounds_at.Given as goal

abbrev pub invariant-loop-place : goal.invariant-loop-place
invariant-loop-place l = record {
  room : length l.room.state ≡ words_for (length l.problem.atoms);
  left : row_at same_state (rows_of l.problem (own l.problem l.draft) (drop l.place l.draft.rows)) l.state
      ≡ row_at same_state (rows_of l.problem (own l.problem l.draft) l.draft.rows) l.state;
}
