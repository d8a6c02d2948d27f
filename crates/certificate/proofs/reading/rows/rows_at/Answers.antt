use Rattle.std.proofs.lemmas.Result.{err_from_is_err_and}
use Rattle.certificate.specs.Decoding.{parts}
use Rattle.certificate.specs.Reading.{rows_list}
use Rattle.certificate.specs.Rows.{shown}
use Rattle.certificate.proofs.ItemLoop.{goes_on, ends_at_line, ends_at_item, is_done}
use Rattle.certificate.proofs.reading.rows.rows_at.Goals as goal

pub returns-in_err-text : goal.returns-in_err-text
returns-in_err-text c =
    let p = err_from_is_err_and c.from_residual-in_err-text.result c.from_residual-in_err-text.ensures.1 in
    rw (p.1, p.2) (
    ends_at_line (rows_list c.args.tables.atoms c.args.tables.acts) c.loop-index.rows c.args.first c.args.count c.loop-index.index (parts 10 c.loop-index.rest.now) _ c.in_err-text.field-0.0
    c.loop-index-test.true c.in_err-text.ensures c.loop-index.invariant
    )

pub returns-in_err-row : goal.returns-in_err-row
returns-in_err-row c =
    let p = err_from_is_err_and c.from_residual-in_err-row.result c.from_residual-in_err-row.ensures.1 in
    rw (p.1, p.2) (
    ends_at_item (rows_list c.args.tables.atoms c.args.tables.acts) c.loop-index.rows c.args.first c.args.count c.loop-index.index (parts 10 c.loop-index.rest.now) _ c.in_err-row.field-0.0
    c.in_ok-text.text.now (parts 10 c.in_ok-text.after.now) c.loop-index-test.true c.in_ok-text.ensures (rw c.last.ensures at c.in_err-row.ensures) c.loop-index.invariant
    )

pub loop-index-preserved : goal.loop-index-preserved
loop-index-preserved c =
    rw c.in_ok-push.ensures.pushed (
    goes_on (rows_list c.args.tables.atoms c.args.tables.acts) c.loop-index.rows c.args.first c.args.count c.loop-index.index (parts 10 c.loop-index.rest.now) _
    c.in_ok-text.text.now (parts 10 c.in_ok-text.after.now) (shown c.in_ok-row.row) c.loop-index-test.true c.in_ok-text.ensures (rw c.last.ensures at c.in_ok-row.ensures) c.loop-index.invariant
    )

pub returns : goal.returns
returns c = is_done (rows_list c.args.tables.atoms c.args.tables.acts) c.loop-index.rows c.args.first c.args.count c.loop-index.index (parts 10 c.loop-index.rest.now) _ c.loop-index-test.false c.loop-index.invariant
