-- A row says the act whose place stands at its code.
use Rattle.std.proofs.Common.{◌≡◌, Some, [], ◌∷◌, ◌++◌, length, map, take, refl, sym, ap, ◌∙◌}
use Rattle.std.specs.List.{slice_get}
use Rattle.std.proofs.lemmas.Option.{slice_get_read}
use Rattle.std.specs.Prelude.{Contains}
use Rattle.std.proofs.lemmas.List.{map_more}
use Rattle.fixed_round.specs.Words.{value_of}
use Rattle.plan_report.specs.certificates.RowsKept.{KeptRow}
use Rattle.plan_report.specs.certificates.Kept.{act_name}
use Rattle.plan_report.specs.certificates.Tables.{act_at, act_for, numbered_row}
use Rattle.plan_report.proofs.lemmas.certificates.ActTable.{act_is}
use Rattle.plan_report.proofs.certificates.numbering.numbered_rows.Goals as goal

pub loop-row-preserved : goal.loop-row-preserved
loop-row-preserved c =
    let g = c.args.problem.now in let acts = c.args.acts.now in let places = c.args.places.now in let rows = c.args.rows.now in
    let row = c.row-item.result in let act_places = c.in_ok-act_places.act_places.items in
    let here : Contains rows row = (c.loop-row.row-index, c.loop-row-test.true, sym c.row-item.is) in
    let there : slice_get rows c.loop-row.row-index ≡ Some row
    = slice_get_read rows (length rows) c.loop-row.row-index row refl c.loop-row-test.true c.row-item.is in
    let act : c.act_of.result ≡ act_for acts (act_name g row.upper)
    = c.act_of.ensures ∙ (λ j. act_at (c.deref.ensures.value j) (c.upper-in-loop-row.ensures j))
    ∙ act_is g acts act_places c.in_ok-act_places.ensures.places row.upper
    (c.in_ok-act_places.ensures.rows c.loop-row.row-index row c.loop-row-test.true there) (c.requires.has row here) in
    let atoms = c.deref-in-loop-row.ensures.value ∙ c.in_ok-take_places.ensures in
    let upper = c.value.ensures ∙ ap value_of c.upper.ensures in
    c.in_ok-push.ensures.pushed
    ∙ (λ j. c.loop-row.invariant j ++ record { lower = c.lower.ensures j; upper = upper j; act = act j; atoms = atoms j } ∷ [])
    ∙ ap (λ (r : KeptRow). map (numbered_row g places acts) (take c.loop-row.row-index rows) ++ numbered_row g places acts r ∷ []) c.row-item.is
    ∙ sym (map_more (numbered_row g places acts) rows c.loop-row.row-index row c.loop-row-test.true)
