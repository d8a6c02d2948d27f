use Rattle.std.proofs.lemmas.Result.{err_from_is_err_and}
use Rattle.certificate.specs.Decoding.{parts}
use Rattle.certificate.specs.Reading.{table_list}
use Rattle.certificate.proofs.ItemLoop.{goes_on, ends_at_line, ends_at_item, is_done}
use Rattle.certificate.proofs.reading.tables.entries_at.Goals as goal

pub returns-in_err-text : goal.returns-in_err-text
returns-in_err-text c =
    let p = err_from_is_err_and c.from_residual-in_err-text.result c.from_residual-in_err-text.ensures.1 in
    rw (p.1, p.2) (
    ends_at_line (table_list c.args.word.now) c.loop-index.entries.items c.args.first c.args.count c.loop-index.index (parts 10 c.loop-index.rest.now) _ c.in_err-text.field-0.0
    c.loop-index-test.true c.in_err-text.ensures c.loop-index.invariant
    )

pub returns-in_err-entry : goal.returns-in_err-entry
returns-in_err-entry c =
    let p = err_from_is_err_and c.from_residual-in_err-entry.result c.from_residual-in_err-entry.ensures.1 in
    rw (p.1, p.2) (
    ends_at_item (table_list c.args.word.now) c.loop-index.entries.items c.args.first c.args.count c.loop-index.index (parts 10 c.loop-index.rest.now) _ c.in_err-entry.field-0.0
    c.in_ok-text.text.now (parts 10 c.in_ok-text.after.now) c.loop-index-test.true c.in_ok-text.ensures (rw (c.last.ensures.value, c.deref.ensures.value) at c.in_err-entry.ensures) c.loop-index.invariant
    )

pub loop-index-preserved : goal.loop-index-preserved
loop-index-preserved c =
    rw c.in_ok-push.ensures.items (
    goes_on (table_list c.args.word.now) c.loop-index.entries.items c.args.first c.args.count c.loop-index.index (parts 10 c.loop-index.rest.now) _
    c.in_ok-text.text.now (parts 10 c.in_ok-text.after.now) c.in_ok-entry.entry c.loop-index-test.true c.in_ok-text.ensures (rw (c.last.ensures.value, c.deref.ensures.value) at c.in_ok-entry.ensures) c.loop-index.invariant
    )

pub returns : goal.returns
returns c = is_done (table_list c.args.word.now) c.loop-index.entries.items c.args.first c.args.count c.loop-index.index (parts 10 c.loop-index.rest.now) _ c.loop-index-test.false c.loop-index.invariant
