use Rattle.std.proofs.Common.{◌≡◌, ◌+◌, ◌*◌, ◌-◌, ◌<◌, ◌≤◌, [], length, get_or, take, drop, sym, ap, ◌∙◌, arith}
use Rattle.task_instances.specs.kept_rows.Rows.{Table}
use Rattle.task_instances.proofs.lemmas.kept_rows.RowSteps.{rows-get, row_within, counted_at}
use Rattle.task_instances.proofs.kept_rows.rows.Rows.row.Goals as goal

pub overflow_mul-start : goal.overflow_mul-start
overflow_mul-start c =
    let counted : c.args.place < c.self.inside.count
    = counted_at c.self.inside.width c.self.inside.count c.self.inside.numbers.items c.args.self.now c.args.place c.self.view_is c.requires in
    let within : c.args.place * c.self.inside.width + c.self.inside.width ≤ length c.self.inside.numbers.items
    = row_within c.self.inside.width c.self.inside.count c.args.place (length c.self.inside.numbers.items) c.self.invariant counted in
    let long : length c.as_slice-numbers.result.now ≡ length c.self.inside.numbers.items = ap length c.as_slice-numbers.ensures.value in
    omega (arith, within, long, c.as_slice-numbers.type_inv)

pub overflow_add-result : goal.overflow_add-result
overflow_add-result c =
    let counted : c.args.place < c.self.inside.count
    = counted_at c.self.inside.width c.self.inside.count c.self.inside.numbers.items c.args.self.now c.args.place c.self.view_is c.requires in
    let within : c.args.place * c.self.inside.width + c.self.inside.width ≤ length c.self.inside.numbers.items
    = row_within c.self.inside.width c.self.inside.count c.args.place (length c.self.inside.numbers.items) c.self.invariant counted in
    let long : length c.as_slice-numbers.result.now ≡ length c.self.inside.numbers.items = ap length c.as_slice-numbers.ensures.value in
    omega (arith, within, long, c.as_slice-numbers.type_inv)

pub offset_bounds-numbers-start : goal.offset_bounds-numbers-start
offset_bounds-numbers-start c =
    let counted : c.args.place < c.self.inside.count
    = counted_at c.self.inside.width c.self.inside.count c.self.inside.numbers.items c.args.self.now c.args.place c.self.view_is c.requires in
    let within : c.args.place * c.self.inside.width + c.self.inside.width ≤ length c.self.inside.numbers.items
    = row_within c.self.inside.width c.self.inside.count c.args.place (length c.self.inside.numbers.items) c.self.invariant counted in
    let long : length c.as_slice-numbers.result.now ≡ length c.self.inside.numbers.items = ap length c.as_slice-numbers.ensures.value in
    omega (arith, within, long, c.as_slice-numbers.type_inv)

pub slice_bounds-result-end : goal.slice_bounds-result-end
slice_bounds-result-end c =
    let counted : c.args.place < c.self.inside.count
    = counted_at c.self.inside.width c.self.inside.count c.self.inside.numbers.items c.args.self.now c.args.place c.self.view_is c.requires in
    let within : c.args.place * c.self.inside.width + c.self.inside.width ≤ length c.self.inside.numbers.items
    = row_within c.self.inside.width c.self.inside.count c.args.place (length c.self.inside.numbers.items) c.self.invariant counted in
    let long : length c.as_slice-numbers.result.now ≡ length c.self.inside.numbers.items = ap length c.as_slice-numbers.ensures.value in
    omega (arith, within, long)

pub returns : goal.returns
returns c =
    let w = c.self.inside.width in
    let counted : c.args.place < c.self.inside.count
    = counted_at c.self.inside.width c.self.inside.count c.self.inside.numbers.items c.args.self.now c.args.place c.self.view_is c.requires in
    let wide : c.args.place * w + w - c.args.place * w ≡ w = omega arith in
    ap (λ k. take k (drop (c.args.place * w) c.as_slice-numbers.result.now)) wide
    ∙ ap (λ l. take w (drop (c.args.place * w) l)) c.as_slice-numbers.ensures.value
    ∙ sym (rows-get w c.self.inside.count c.self.inside.numbers.items c.args.place counted)
    ∙ ap (λ (t : Table). get_or t.rows c.args.place []) c.self.view_is
