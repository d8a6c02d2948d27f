-- The row of a published id stands behind those so far.
use Rattle.std.proofs.Common.{◌≡◌, ◌<◌, ◌∙◌, true, false, Vec, Global, slice_set, length, take, sym, ap, subst, arith, length-set}
use Rattle.std.specs.Prelude.{All}
use Rattle.std.specs.Mem.Slots.{slots_items}
use Rattle.std.proofs.lemmas.List.{take_more_set}
use Rattle.std.proofs.lemmas.List.Elements.{All-set}
use Rattle.std.proofs.lemmas.List.FromFn.{length-map-range_with_len}
use Rattle.bound_core.specs.declared.image.ImageRow.{ImageRow}
use Rattle.word_table.specs.layout.Places.{state_at}
use Rattle.word_table.specs.rule.Words.{word}
use Rattle.word_table.specs.Closed.{is_held, IsWide}
use Rattle.word_table.proofs.Ending.{row_more, no_row}
use Rattle.word_table.proofs.closing.read_rows.Goals as goal
use Rattle.word_table.proofs.closing.read_rows.Goals.{then-published-id, else-published-id}

pub loop-id-preserved : goal.loop-id-preserved
loop-id-preserved c =
    let i = c.loop-id.invariant in
    let g = c.args.problem.now in let l = c.args.layout in let ws = slots_items c.args.closed.now.words in
    let id = c.loop-id.id in let count = c.loop-id.count in let rows = c.loop-id.rows.items in
    let mark = c.requires.marks.each id c.loop-id-test.true in
    let few = i.few in
    elim c.if-published-id.branch [
      | then-published-id w ↦
          let row = w.read_row.new.row in
          let on : is_held ws l.buckets id ≡ true = sym mark ∙ w.if-published-id.true in
          let here : count < length rows = omega (arith, i.count, c.loop-id-test.true) in
          let items : c.if-published-id.rows.items ≡ slice_set rows count row = ap (λ (v : Vec ImageRow Global). v.items) w.rows-is in
          let more = (λ j. take (w.count-is j) (items j)) ∙ take_more_set rows count row here in
          let wide = ap (λ (r : ImageRow). length r.state) w.read_row.ensures ∙ length-map-range_with_len (λ k. word ws (state_at l id k)) 0 l.width in record {
            rows = row_more g l ws id (take count rows) (take c.if-published-id.count c.if-published-id.rows.items) row i.rows on w.read_row.ensures more;
            few = omega (arith, w.count-is);
            count = ap length items ∙ length-set rows count row ∙ i.count;
            wide = subst (All (IsWide l)) (sym items) (All-set (IsWide l) rows count row wide i.wide);
          }
      | else-published-id w ↦
          let off : is_held ws l.buckets id ≡ false = sym mark ∙ w.if-published-id.false in
          let items = ap (λ (v : Vec ImageRow Global). v.items) w.rows-is in record {
            rows = (λ j. take (w.count-is j) (items j)) ∙ no_row g l ws id (take count rows) i.rows off;
            few = omega (arith, w.count-is);
            count = ap length items ∙ i.count;
            wide = subst (All (IsWide l)) (sym items) i.wide;
          }
    ]
