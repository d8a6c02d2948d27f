-- What is told by the rows is told by the certificate.
use Rattle.std.proofs.Common.{refl}
use Rattle.plan_search.specs.Under.{with_report}
use Rattle.plan_search.proofs.Below.{answer_below}
use Rattle.plan_search.proofs.lemmas.solver.Telling.{written_of}
use Rattle.plan_search.proofs.answering.answer_with.Goals as goal

pub returns-clause-answer : goal.returns-clause-answer
returns-clause-answer c =
    answer_below c.args.problem.now c.args.effort.now c.args.sizes.now c.args.lower c.args.closing c.in_ok-answer.answer c.in_ok-answer.ensures.answer
    c.under_told-under.result c.under_told-under.ensures c.in_ok-report.report c.in_ok-report.ensures

pub returns-clause-written : goal.returns-clause-written
returns-clause-written c =
    let a = c.in_ok-answer.answer in
    written_of c.args.problem.now c.args.effort.now c.args.sizes.now c.args.closing a (with_report a c.in_ok-report.report) refl c.in_ok-answer.ensures.answer
