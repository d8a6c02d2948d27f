use Rattle.std.proofs.Common.{◌≡◌, length}
use Rattle.certificate_check.specs.Claims.{low_in, high_in}
use Rattle.certificate_check.proofs.lemmas.row_check.Totals.{IsValueOf}
use Rattle.ground_model.specs.Packed.{words_for}
use Rattle.cert_merge.specs.Drafts.{own}
use Rattle.cert_merge.proofs.ends.add_up.Given as goal

abbrev pub invariant-loop-start : goal.invariant-loop-start
invariant-loop-start l = record {
  room : length l.room.state ≡ words_for (length l.problem.atoms);
  same : l.start-items ≡ l.problem.starts;
  lower : IsValueOf (low_in l.problem (own l.problem l.draft)) l.start-items l.start-index l.lower;
  upper : IsValueOf (high_in l.problem (own l.problem l.draft)) l.start-items l.start-index l.upper;
}
