-- The ground problem of the texts, and behind it the certificate.
use Rattle.std.proofs.Common.{rules}
use Rattle.plan_request.specs.Shown.{shown_sources}
use Rattle.plan_report.specs.Reports.{accepted_text}
use Rattle.plan_app.proofs.Flow.{texts_stop, certificate_stops, calls_behind, calls_alone}
use Rattle.plan_app.proofs.judging.check.Goals as goal

pub returns-in_err-problem-clause-ends : goal.returns-in_err-problem-clause-ends
returns-in_err-problem-clause-ends g c =
    let stop = texts_stop g.S.Shelf.held g.S.Shelf.read_faults g.S.Shelf.write_faults c.args.shelf.now (shown_sources c.args.sources.now) c.args.name.now
    (λ _. accepted_text) c.problem_of.new.shelf c.in_err-problem.field-0.0 c.in_err-problem.ensures.ends in
    search (rules, stop)

pub returns-in_err-problem-clause-calls : goal.returns-in_err-problem-clause-calls
returns-in_err-problem-clause-calls g c =
    calls_alone g.S.Shelf.held g.S.Shelf.calls c.args.shelf.now c.problem_of.new.shelf 1 (shown_sources c.args.sources.now) c.problem_of.ensures.calls

pub returns-in_err-certificate-clause-ends : goal.returns-in_err-certificate-clause-ends
returns-in_err-certificate-clause-ends g c =
    let stop = certificate_stops g.S.Shelf.held g.S.Shelf.read_faults g.S.Shelf.write_faults c.args.shelf.now (shown_sources c.args.sources.now) c.args.name.now
    (λ _. accepted_text) c.in_ok-problem.problem c.in_ok-problem.ensures.ends c.problem_of.new.shelf c.problem_of.ensures.shelf.held_same
    c.accepted_certificate.new.shelf c.problem_of.ensures.shelf.later c.in_err-certificate.field-0.0 c.in_err-certificate.ensures.ends in
    search (rules, stop)

pub returns-in_err-certificate-clause-calls : goal.returns-in_err-certificate-clause-calls
returns-in_err-certificate-clause-calls g c =
    calls_behind g.S.Shelf.held g.S.Shelf.calls c.args.shelf.now c.problem_of.new.shelf c.accepted_certificate.new.shelf 1 (shown_sources c.args.sources.now)
    (c.in_ok-problem.problem, c.in_ok-problem.ensures.ends) c.problem_of.ensures.calls c.accepted_certificate.ensures.calls

pub returns-in_err-check_report-clause-calls : goal.returns-in_err-check_report-clause-calls
returns-in_err-check_report-clause-calls g c =
    calls_behind g.S.Shelf.held g.S.Shelf.calls c.args.shelf.now c.problem_of.new.shelf c.accepted_certificate.new.shelf 1 (shown_sources c.args.sources.now)
    (c.in_ok-problem.problem, c.in_ok-problem.ensures.ends) c.problem_of.ensures.calls c.accepted_certificate.ensures.calls

pub returns-clause-calls : goal.returns-clause-calls
returns-clause-calls g c =
    calls_behind g.S.Shelf.held g.S.Shelf.calls c.args.shelf.now c.problem_of.new.shelf c.accepted_certificate.new.shelf 1 (shown_sources c.args.sources.now)
    (c.in_ok-problem.problem, c.in_ok-problem.ensures.ends) c.problem_of.ensures.calls c.accepted_certificate.ensures.calls
