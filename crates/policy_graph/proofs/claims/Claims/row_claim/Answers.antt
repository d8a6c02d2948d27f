-- The row in the place of the state is its own.
use Rattle.std.proofs.Common.{◌≡◌, ◌∙◌, map, false, List, Some, sym, ap, subst}
use Rattle.std.specs.Prelude.{nat_eq, position, option_map}
use Rattle.std.specs.List.{list_any, slice_get}
use Rattle.std.specs.Cmp.Lexicographic.{pointwise}
use Rattle.certificate.specs.Rows.{Row, shown}
use Rattle.certificate.specs.Content.{IsCertificate}
use Rattle.certificate_check.specs.Claims.{row_state, IsBalancedFor}
use Rattle.policy_graph.specs.Claims.{Told, claim_of}
use Rattle.policy_graph.proofs.Rows.{row_there, row_nowhere}
use Rattle.policy_graph.proofs.Told.{claimed}
use Rattle.policy_graph.proofs.claims.Claims.row_claim.Goals as goal

pub returns-in_err-place : goal.returns-in_err-place
returns-in_err-place c =
    let g = c.args.self.now.problem in let q = c.args.self.now.certificate in let s = c.args.state.now in
    let balanced : IsBalancedFor g q = subst (λ (x : Told). IsBalancedFor x.problem x.certificate) c.self.view_is c.self.invariant.balanced in
    let states = c.self.invariant.states_are ∙ ap (λ (x : Told). map (row_state x.problem x.certificate) x.certificate.rows) c.self.view_is in
    let none : list_any (pointwise nat_eq s) (map (row_state g q) q.rows) ≡ false
    = sym (ap (list_any (pointwise nat_eq s)) states) ∙ sym c.in_err-place.ensures.found in
    c.from_residual.ensures ∙ sym (ap (option_map claim_of) (row_nowhere g q balanced s none))

pub returns : goal.returns
returns c =
    let g = c.args.self.now.problem in let q = c.args.self.now.certificate in let s = c.args.state.now in
    let place = c.in_ok-place.place in
    let balanced : IsBalancedFor g q = subst (λ (x : Told). IsBalancedFor x.problem x.certificate) c.self.view_is c.self.invariant.balanced in
    let states = c.self.invariant.states_are ∙ ap (λ (x : Told). map (row_state x.problem x.certificate) x.certificate.rows) c.self.view_is in
    let is : IsCertificate q = subst IsCertificate (ap (λ (x : Told). x.certificate) c.self.view_is) c.rows.ensures.valid in
    let mine : Row = shown c.row-row.result in
    let there : slice_get q.rows place ≡ Some mine
    = ap (λ (l : List Row). slice_get l place) (sym (c.rows.ensures.value ∙ ap (λ (x : Told). x.certificate.rows) c.self.view_is)) ∙ c.row-row.ensures in
    let found : position (pointwise nat_eq s) (map (row_state g q) q.rows) ≡ Some place
    = sym (ap (position (pointwise nat_eq s)) states) ∙ sym c.in_ok-place.ensures.index in
    ap (claimed mine) c.action.ensures ∙ sym (ap (option_map claim_of) (row_there g q is balanced s place mine found there))
