use Rattle.plan_search.proofs.Replies.{measured}
use Rattle.plan_search.proofs.answering.measured_of.Goals as goal

pub returns : goal.returns
returns c =
    let w = c.is_within-converged in let r = c.in_ok-report in
    measured c.args.problem.now c.args.effort.now c.args.sizes.now c.in_ok-found.found c.in_ok-found.ensures.found w.ensures.valid
    r.report w.result r.ensures w.ensures.within
