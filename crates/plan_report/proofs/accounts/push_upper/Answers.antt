-- The row that is read is the one in its place, and its act is right.
use Rattle.std.proofs.Common.{◌≡◌, ◌++◌, List, Some, ap, sym, ◌∙◌}
use Rattle.std.specs.List.{slice_get}
use Rattle.certificate.specs.Rows.{Row, shown}
use Rattle.plan_report.specs.Account.{placed, state_text, upper_sides, upper_text}
use Rattle.plan_report.proofs.Telling.{put_behind, placed_is, least_found}
use Rattle.plan_report.proofs.accounts.push_upper.Goals as goal

pub returns : goal.returns
returns c =
    let g = c.args.problem.now in
    let q = c.args.certificate.now in
    let out = c.args.out.now.items in
    let mine : Row = shown c.row-row.result in
    let there : slice_get q.rows c.args.place ≡ Some mine
    = ap (λ (l : List Row). slice_get l c.args.place) (sym c.rows.ensures.value) ∙ c.row-row.ensures in
    let sides = c.in_ok-sides.ensures mine there in
    let least = c.unwrap_or-least.ensures
    ∙ least_found g q mine c.in_ok-sides.sides.least_upper (c.requires.right mine there) sides.least_upper in
    let told : c.push_upper_sides.new.out.items ≡ out ++ upper_text g q mine
    = c.in_ok-push_upper_sides.ensures ∙ (λ i. out ++ upper_sides (c.from.ensures i) (least i)) in
    put_behind c.push_state.result out c.push_upper_sides.new.out.items c.push_state.new.out.items (upper_text g q mine) (state_text q mine)
    (placed g q (upper_text g q) c.args.place) told (placed_is g q (upper_text g q) c.args.place mine there) c.push_state.ensures
