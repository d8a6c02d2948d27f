-- The state follows the one that was found.
use Rattle.std.specs.Prelude.{IsTrue}
use Rattle.std.proofs.Common.{rules}
use Rattle.search_tests.proofs.Stepping.{step_is_reached}
use Rattle.search_tests.proofs.table.steps.reach.Goals as goal

pub returns-clause-reached : goal.returns-clause-reached
returns-clause-reached c = λ yes.
    let on : IsTrue c.can_step.result = search rules in
    step_is_reached c.args.words.now c.problem-problem.result.now c.find_id.new.pass c.args.state.now c.successor.new.into c.in-Some._id c.args.action
    c.problem-problem.ensures c.find_id.ensures.goes_on.here c.in-Some.ensures.some (c.can_step.ensures on) c.successor.ensures.next
