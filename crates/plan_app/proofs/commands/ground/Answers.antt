-- The ground problem of the texts is reported.
use Rattle.std.proofs.Common.{rules}
use Rattle.plan_request.specs.Shown.{shown_sources}
use Rattle.plan_app.proofs.Flow.{ground_stops}
use Rattle.plan_app.proofs.commands.ground.Goals as goal

pub returns-in_err-problem-clause-ends : goal.returns-in_err-problem-clause-ends
returns-in_err-problem-clause-ends g c =
    let stop = ground_stops g.S.Shelf.held g.S.Shelf.read_faults g.S.Shelf.write_faults c.args.shelf.now (shown_sources c.args.sources.now)
    c.problem_of.new.shelf c.in_err-problem.field-0.0 c.in_err-problem.ensures.ends in
    search (rules, stop)
