-- What a row of each says together.
use Rattle.std.proofs.Common.{◌≡◌, sym, ap, subst, ◌∙◌, List, Some}
use Rattle.std.specs.List.{slice_get}
use Rattle.certificate.specs.Rows.{Row, shown}
use Rattle.cert_merge.specs.declared.origin.Origin.{Origin}
use Rattle.cert_merge.specs.Claims.{first_claim, second_claim, meet_claims, IsClaimOf}
use Rattle.cert_merge.proofs.Claiming.{both_claim}
use Rattle.cert_merge.proofs.claim.claim_of.Goals as goal

pub returns-in-Both : goal.returns-in-Both
returns-in-Both c =
    let first = c.args.first.now in let second = c.args.second.now in
    let r : Row = shown c.row-in-Both.result in let s : Row = shown c.row-in-Both-2.result in
    let at : slice_get first.rows c.in-Both.i ≡ Some r
    = ap (λ (l : List Row). slice_get l c.in-Both.i) (sym c.rows-rows.ensures.value) ∙ c.row-in-Both.ensures in
    let at' : slice_get second.rows c.in-Both.j ≡ Some s
    = ap (λ (l : List Row). slice_get l c.in-Both.j) (sym c.rows-others.ensures.value) ∙ c.row-in-Both-2.ensures in
    let is : c.meet-in-Both.result ≡ meet_claims (first_claim r) (second_claim s)
    = c.meet-in-Both.ensures ∙ (λ k. meet_claims (c.of_first-in-Both.ensures k) (c.of_second-in-Both.ensures k)) in
    subst (λ (o : Origin). IsClaimOf first second o c.meet-in-Both.result) (sym c.in-Both.is)
    (subst (IsClaimOf first second _) (sym is)
    (both_claim first second c.rows-rows.ensures.valid c.rows-others.ensures.valid c.in-Both.i c.in-Both.j r s at at'))
