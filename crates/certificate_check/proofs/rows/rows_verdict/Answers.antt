-- Each row before is sound.
use Rattle.std.proofs.Common.{◌≡◌, Some, length, arith, ap, ◌∙◌}
use Rattle.std.specs.List.{slice_get}
use Rattle.certificate.specs.Rows.{Row}
use Rattle.certificate.specs.Content.{Content}
use Rattle.certificate_check.specs.GroundRows.{Claimed}
use Rattle.certificate_check.specs.Pass.{low_of, high_of}
use Rattle.certificate_check.proofs.Arena.{item_there}
use Rattle.certificate_check.proofs.Verdicts.{none_of, sound_by, sound_more, sound_all}
use Rattle.certificate_check.proofs.rows.rows_verdict.Goals as goal

pub returns-in-Some : goal.returns-in-Some
returns-in-Some c =
    let x = c.args.table.now in
    let rows : length c.rows-2.result.now ≡ length x.certificate.rows
    = ap length c.rows-2.ensures.value
    ∙ ap (λ (q : Content). length q.rows) (c.certificate.ensures ∙ ap (λ (y : Claimed). y.certificate) c.rows.ensures) in
    let there : (r : Row) × (slice_get x.certificate.rows c.loop-place.place ≡ Some r)
    = item_there x.certificate.rows c.loop-place.place (omega (arith, rows, c.len-place-end.ensures, c.loop-place-test.true)) in
    record {
      place = c.loop-place.place;
      row = there.0;
      at = there.1;
      before = c.loop-place.invariant.sound;
      fails = c.in-Some.ensures.verdict there.0 there.1;
    }

pub loop-place-preserved : goal.loop-place-preserved
loop-place-preserved c =
    let x = c.args.table.now in
    record {
      sound = sound_more x.problem x.certificate (low_of x) (high_of x) c.loop-place.place
          c.loop-place.invariant.sound
          (λ r at. sound_by x.problem x.certificate (low_of x) (high_of x) r
          c.loop-place.place c.row_verdict.result (none_of c.row_verdict.result c.in_default.not-Some)
          (c.row_verdict.ensures.verdict r at));
      room = c.row_verdict.ensures.room;
    }

pub returns : goal.returns
returns c =
    let x = c.args.table.now in
    let rows : length c.rows-2.result.now ≡ length x.certificate.rows
    = ap length c.rows-2.ensures.value
    ∙ ap (λ (q : Content). length q.rows) (c.certificate.ensures ∙ ap (λ (y : Claimed). y.certificate) c.rows.ensures) in
    sound_all x.problem x.certificate (low_of x) (high_of x) c.loop-place.place
    (omega (arith, rows, c.len-place-end.ensures, c.loop-place-test.false)) c.loop-place.invariant.sound
