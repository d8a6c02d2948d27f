-- What was found of the state, or that it was not.
use Rattle.std.proofs.Common.{rules, ◌<◌}
use Rattle.policy_server.proofs.Looked.{missing_serves, found_serves}
use Rattle.policy_server.proofs.looking.look_up.Goals as goal

pub returns-in_default : goal.returns-in_default
returns-in_default c =
    missing_serves c.args.words.now c.args.pass.now c.find.new.pass c.args.state.now c.in_default.ensures.goes_on c.in_default.ensures.spare (search rules)

pub returns : goal.returns
returns c = let small : c.interval-found.result.code < 65536 = search rules in (
  c.in-Some.id,
  found_serves c.args.words.now c.args.pass.now c.find.new.pass c.load_count.new.pass c.interval-found.new.pass c.args.state.now c.in-Some.id c.load_count.result c.interval-found.result
      c.find.ensures.goes_on c.find.ensures.spare c.in-Some.ensures.some small c.load_count.ensures.one c.load_count.ensures.seen c.interval-found.ensures.seen c.interval-found.ensures.told,
)
