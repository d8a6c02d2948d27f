use Rattle.std.proofs.Common.{sym, arith}
use Rattle.grounder.proofs.lemmas.outset.Walking.{one_further, stops_within, all_walked}
use Rattle.grounder.proofs.outset.walking.many_more.Goals as goal

pub returns-in-Err : goal.returns-in-Err
returns-in-Err c =
    sym (stops_within c.args.walked c.loop.next c.args.effect c.loop.counter c.loop.invariant c.args.count c.in-Err.code c.loop-test.true (sym c.in-Err.ensures))

pub loop-preserved : goal.loop-preserved
loop-preserved c = one_further c.args.walked c.loop.next c.args.effect c.loop.counter c.loop.invariant c.in-Ok.more (sym c.in-Ok.ensures)

pub returns : goal.returns
returns c = sym (all_walked c.args.walked c.loop.next c.args.effect c.loop.counter c.loop.invariant c.args.count (omega arith))
