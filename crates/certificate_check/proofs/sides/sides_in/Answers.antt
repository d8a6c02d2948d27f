-- The row that is read is the one in its place.
use Rattle.std.proofs.Common.{◌≡◌, not, Some, sym, ap, subst, ◌∙◌}
use Rattle.std.specs.List.{slice_get}
use Rattle.certificate.specs.Rows.{Row, shown}
use Rattle.certificate_check.specs.Claims.{row_state, act_of}
use Rattle.certificate_check.specs.GroundRows.{Claimed}
use Rattle.certificate_check.proofs.Places.{read_at, state_length}
use Rattle.certificate_check.proofs.RowVerdict.{room_before}
use Rattle.certificate_check.proofs.RowSides.{sides_of_row, sides_without_act}
use Rattle.certificate_check.proofs.sides.sides_in.Goals as goal

pub copy_words-requires : goal.copy_words-requires
copy_words-requires c =
    let x = c.args.table.now in
    let kept = c.rows-rows.result.now in
    let mine : Row = shown c.row.result in
    let there = read_at kept c.certificate.result.now c.rows.result.now c.args.place mine c.certificate.ensures c.rows.ensures.value c.row.ensures in
    let state : c.state.result.now ≡ row_state x.problem x.certificate mine
    = c.state.ensures mine there ∙ ap (λ (y : Claimed). row_state y.problem y.certificate mine) c.rows-rows.ensures in
    c.requires.room.state ∙ sym (state_length x mine c.state.result.now state)

pub sides_at-sides-requires-clause-room : goal.sides_at-sides-requires-clause-room
sides_at-sides-requires-clause-room c =
    let x = c.args.table.now in
    let kept = c.rows-rows.result.now in
    let mine : Row = shown c.row.result in
    let there = read_at kept c.certificate.result.now c.rows.result.now c.args.place mine c.certificate.ensures c.rows.ensures.value c.row.ensures in
    let state : c.state.result.now ≡ row_state x.problem x.certificate mine
    = c.state.ensures mine there ∙ ap (λ (y : Claimed). row_state y.problem y.certificate mine) c.rows-rows.ensures in
    room_before c.args.index.now x.problem c.copy_words.new.into c.args.room.now c.requires.problem
    (state_length x mine c.copy_words.new.into (c.copy_words.ensures ∙ state)) c.requires.room

pub returns-then-is_none : goal.returns-then-is_none
returns-then-is_none c = λ r at'.
    let x = c.args.table.now in
    let kept = c.rows-rows.result.now in
    let mine : Row = shown c.row.result in
    let there = read_at kept c.certificate.result.now c.rows.result.now c.args.place mine c.certificate.ensures c.rows.ensures.value c.row.ensures in
    let state : c.state.result.now ≡ row_state x.problem x.certificate mine
    = c.state.ensures mine there ∙ ap (λ (y : Claimed). row_state y.problem y.certificate mine) c.rows-rows.ensures in
    let at = subst (λ (y : Claimed). slice_get y.certificate.rows c.args.place ≡ Some mine) c.rows-rows.ensures there in
    let named = c.act-act.ensures ∙ ap (λ (y : Claimed). act_of y.problem y.certificate mine.act) c.rows-rows.ensures in
    sides_without_act c.args.index.now x.problem x.certificate mine r c.args.place c.act-act.result c.unwrap_or.result c.copy_words.new.into
    c.sides_at-sides.result c.requires.problem at at' named (c.copy_words.ensures ∙ state) c.sides_at-sides.ensures.sides
    (c.is_none.ensures ∙ ap not c.if-is_none.true)

pub returns-else-is_none : goal.returns-else-is_none
returns-else-is_none c = λ r at'.
    let x = c.args.table.now in
    let kept = c.rows-rows.result.now in
    let mine : Row = shown c.row.result in
    let there = read_at kept c.certificate.result.now c.rows.result.now c.args.place mine c.certificate.ensures c.rows.ensures.value c.row.ensures in
    let state : c.state.result.now ≡ row_state x.problem x.certificate mine
    = c.state.ensures mine there ∙ ap (λ (y : Claimed). row_state y.problem y.certificate mine) c.rows-rows.ensures in
    let at = subst (λ (y : Claimed). slice_get y.certificate.rows c.args.place ≡ Some mine) c.rows-rows.ensures there in
    let named = c.act-act.ensures ∙ ap (λ (y : Claimed). act_of y.problem y.certificate mine.act) c.rows-rows.ensures in
    sides_of_row c.args.index.now x.problem x.certificate mine r c.args.place c.act-act.result c.unwrap_or.result c.copy_words.new.into
    c.sides_at-sides.result c.requires.problem at at' named (c.copy_words.ensures ∙ state) c.sides_at-sides.ensures.sides
    (c.is_none.ensures ∙ ap not c.if-is_none.false) c.unwrap_or.ensures
