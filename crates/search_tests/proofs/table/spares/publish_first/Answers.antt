-- The bucket holds the state's id, or another one.
use Rattle.std.proofs.Common.{◌%◌}
use Rattle.search_tests.proofs.Passes.{published_reached, held_reached}
use Rattle.search_tests.proofs.table.spares.publish_first.Goals as goal

pub returns-in-None-clause-reached : goal.returns-in-None-clause-reached
returns-in-None-clause-reached c =
    published_reached c.args.words.now c.args.pass.now c.publish.new.pass (c.hash.result % c.from.result) c.args.state.now c.requires.here c.in-None.ensures.none c.requires.reached

pub returns-in-Some-clause-reached : goal.returns-in-Some-clause-reached
returns-in-Some-clause-reached c =
    held_reached c.args.words.now c.args.pass.now c.publish.new.pass (c.hash.result % c.from.result) c.in-Some.id c.args.state.now c.requires.here c.in-Some.ensures.some
    c.requires.reached
