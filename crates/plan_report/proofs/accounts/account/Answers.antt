-- The verdict names a row, and one on its upper value says that its act is right.
use Rattle.std.proofs.Common.{subst, inl, inr}
use Rattle.certificate_check.specs.Verdicts.{IsVerdict}
use Rattle.plan_report.proofs.Telling.{right_in, unknown_within, act_within}
use Rattle.plan_report.proofs.accounts.account.Goals as goal

pub push_upper-requires-clause-right : goal.push_upper-requires-clause-right
push_upper-requires-clause-right c =
    let g = c.args.problem.now in
    let q = c.args.certificate.now in
    right_in g q c.in-Upper.row (subst (IsVerdict g q) c.in-Upper.is c.requires)

pub push_row-requires : goal.push_row-requires
push_row-requires c =
    let g = c.args.problem.now in
    let q = c.args.certificate.now in
    elim c.in-UnknownAtom.is [
      | inl is ↦ unknown_within g q c.in-UnknownAtom.row (subst (IsVerdict g q) is c.requires)
      | inr is ↦ act_within g q c.in-UnknownAtom.row (subst (IsVerdict g q) is c.requires)
    ]
