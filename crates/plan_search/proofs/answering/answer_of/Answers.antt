use Rattle.std.proofs.Common.{rules, refl, ◌≡◌, ◌⊎◌}
use Rattle.plan_request.specs.declared.stop.Stop.TheVariants.{NoMemory}
use Rattle.plan_search.specs.declared.answer.Answer.{Answer}
use Rattle.plan_search.specs.Answers.{IsTooLong}
use Rattle.plan_search.proofs.Replies.{answered_by, stopped}
use Rattle.plan_search.proofs.lemmas.solver.Telling.{written_of}
use Rattle.plan_search.proofs.answering.answer_of.Goals as goal

pub returns-in_err-certificate-clause-stops : goal.returns-in_err-certificate-clause-stops
returns-in_err-certificate-clause-stops c =
    let stop = c.in_err-certificate.field-0.0 in
    let why : (stop ≡ NoMemory) ⊎ IsTooLong c.args.problem.now c.args.effort.now c.args.sizes.now stop
    = stopped c.args.problem.now c.args.effort.now c.args.sizes.now c.in_ok-found.found c.in_ok-found.ensures.found c.is_within-converged.ensures.valid
    stop c.in_err-certificate.ensures.unwritten in
    search (rules, why)

pub returns-clause-answer : goal.returns-clause-answer
returns-clause-answer c =
    let w = c.is_within-converged in let r = c.in_ok-report in let t = c.in_ok-certificate in
    answered_by c.args.problem.now c.args.effort.now c.args.sizes.now c.in_ok-found.found c.in_ok-found.ensures.found w.ensures.valid
    r.report w.result r.ensures w.ensures.within c.args.closing c.in_ok-found.ensures.left t.certificate t.ensures.text t.ensures.short

pub returns-clause-written : goal.returns-clause-written
returns-clause-written c =
    let w = c.is_within-converged in let r = c.in_ok-report in let t = c.in_ok-certificate in
    let a : Answer = record { certificate = t.certificate; report = r.report; converged = w.result } in
    written_of c.args.problem.now c.args.effort.now c.args.sizes.now c.args.closing a a refl
    (answered_by c.args.problem.now c.args.effort.now c.args.sizes.now c.in_ok-found.found c.in_ok-found.ensures.found w.ensures.valid
    r.report w.result r.ensures w.ensures.within c.args.closing c.in_ok-found.ensures.left t.certificate t.ensures.text t.ensures.short)
