use Rattle.std.proofs.Common.{◌≡◌, false, rules}
use Rattle.plan_app.specs.Reasons.{has_reason}
use Rattle.plan_app.proofs.Noted.{has_none}
use Rattle.plan_app.proofs.reasons.put_reason.Goals as goal

pub returns-then-not-has_reason-clause-reason : goal.returns-then-not-has_reason-clause-reason
returns-then-not-has_reason-clause-reason g c = λ has stop is.
    let fails : c.has_reason.result ≡ false = search rules in
    absurd (has_none (has_reason c.args.status) c.has_reason.result has c.has_reason.ensures fails)
