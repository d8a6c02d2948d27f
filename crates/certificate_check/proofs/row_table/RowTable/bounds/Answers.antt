-- The row in the place that was found is the state's.
use Rattle.std.proofs.Common.{◌≡◌, Some, ap, subst, ◌∙◌}
use Rattle.std.specs.List.{slice_get}
use Rattle.certificate.specs.Rows.{Row, shown}
use Rattle.certificate.specs.Content.{IsCertificate}
use Rattle.certificate_check.specs.GroundRows.{Claimed}
use Rattle.certificate_check.proofs.Buckets.{no_bounds, row_bounds}
use Rattle.certificate_check.proofs.Places.{read_at}
use Rattle.certificate_check.proofs.row_table.RowTable.bounds.Goals as goal

pub returns-in_err-place : goal.returns-in_err-place
returns-in_err-place c =
    let x = c.args.self.now in
    let is : IsCertificate x.certificate
    = subst IsCertificate (c.certificate.ensures ∙ ap (λ (y : Claimed). y.certificate) c.self.view_is) c.rows-rows.ensures.valid in
    c.from_residual.ensures ∙ no_bounds x c.args.state.now is c.in_err-place.ensures

pub returns : goal.returns
returns c =
    let x = c.args.self.now in
    let is : IsCertificate x.certificate
    = subst IsCertificate (c.certificate.ensures ∙ ap (λ (y : Claimed). y.certificate) c.self.view_is) c.rows-rows.ensures.valid in
    let mine : Row = shown c.row-row.result in
    let there = read_at c.self.inside.rows.now c.certificate.result.now c.rows-rows.result.now c.in_ok-place.place mine c.certificate.ensures
    c.rows-rows.ensures.value c.row-row.ensures in
    let at = subst (λ (y : Claimed). slice_get y.certificate.rows c.in_ok-place.place ≡ Some mine) c.self.view_is there in
    row_bounds x c.args.state.now c.in_ok-place.place mine is c.in_ok-place.ensures at
