-- A name that holds, or may hold, more bytes than a certificate has.
use Rattle.std.proofs.Common.{rules, ap, inl, Err}
use Rattle.certificate.specs.declared.limits.TheConstants.{MOST_BYTES}
use Rattle.plan_request.specs.stop.Stop.{stop_of_certificate}
use Rattle.plan_request.specs.declared.stop.Stop.TheVariants.{NotAccepted}
use Rattle.plan_sources.specs.Endings.{MayGive}
use Rattle.plan_sources.specs.Problems.{stopped}
use Rattle.plan_sources.specs.Sources.{certificate_in}
use Rattle.plan_sources.proofs.Taking.{too_long_held}
use Rattle.plan_sources.proofs.certificates.certificate_of.Goals as goal

pub returns-in-Err-TooLong-clause-ends : goal.returns-in-Err-TooLong-clause-ends
returns-in-Err-TooLong-clause-ends g c =
    let held = g.S.Shelf.held c.args.shelf.now in
    let long = too_long_held _ MOST_BYTES c.read.result (search (rules, c.in-Err-TooLong.is, c.in-Err-TooLong.field-0-is)) c.read.ensures.missing c.read.ensures.too_long in
    let gives : MayGive certificate_in (held c.args.name.now) (Err (NotAccepted 33 0)) =
    (long.0, search (rules, long.1), ap (stopped stop_of_certificate) ((c.text_laws.ensures.refuses_long long.0).1 (inl long.2))) in
    search (rules, gives)
