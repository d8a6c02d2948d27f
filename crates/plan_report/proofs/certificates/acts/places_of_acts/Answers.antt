use Rattle.std.proofs.Common.{◌≡◌, length, Some, refl, rules}
use Rattle.std.specs.List.{slice_get}
use Rattle.std.proofs.lemmas.Option.{slice_get_read}
use Rattle.plan_report.proofs.lemmas.certificates.ActTable.{one_more_placed}
use Rattle.plan_report.proofs.certificates.acts.places_of_acts.Goals as goal

pub loop-row-preserved : goal.loop-row-preserved
loop-row-preserved c =
    let rows = c.args.rows.now in let i = c.loop-row.row-index in let row = c.row-item.result in
    let there : slice_get rows i ≡ Some row = slice_get_read rows (length rows) i row refl c.loop-row-test.true c.row-item.is in
    record {
      places = c.put_place.ensures.places;
      rows = one_more_placed c.loop-row.places.items c.put_place.new.places.items rows i row there c.loop-row.invariant.rows
          c.put_place.ensures.more (search (rules, c.put_place.ensures.here, c.upper.ensures));
    }
