-- The row that is read is the one in its place.
use Rattle.std.proofs.Common.{◌≡◌, ◌++◌, List, Some, codes, ap, sym, ◌∙◌}
use Rattle.std.specs.List.{slice_get}
use Rattle.certificate.specs.Rows.{Row, shown}
use Rattle.plan_report.specs.Account.{placed, state_text, sides_text, lower_text}
use Rattle.plan_report.proofs.Telling.{put_behind, placed_is}
use Rattle.plan_report.proofs.accounts.push_lower.Goals as goal

pub returns : goal.returns
returns c =
    let g = c.args.problem.now in
    let q = c.args.certificate.now in
    let out = c.args.out.now.items in
    let mine : Row = shown c.row-row.result in
    let there : slice_get q.rows c.args.place ≡ Some mine
    = ap (λ (l : List Row). slice_get l c.args.place) (sym c.rows.ensures.value) ∙ c.row-row.ensures in
    let sides = c.in_ok-sides.ensures mine there in
    let told : c.push_sides.new.out.items ≡ out ++ lower_text g q mine
    = c.in_ok-push_sides.ensures
    ∙ (λ i. out ++ sides_text (codes "lower value ") (c.from.ensures i) (codes " is above ") ((c.from-2.ensures ∙ sides.greatest_lower) i)
    (codes ", the most that its acts allow; ")) in
    put_behind c.push_state.result out c.push_sides.new.out.items c.push_state.new.out.items (lower_text g q mine) (state_text q mine)
    (placed g q (lower_text g q) c.args.place) told (placed_is g q (lower_text g q) c.args.place mine there) c.push_state.ensures
