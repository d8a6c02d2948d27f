-- One turn more, and the end.
use Rattle.std.proofs.Common.{refl, ◌∙◌, arith}
use Rattle.policy_server.specs.Serving.{Input, input}
use Rattle.policy_server.proofs.Runs.{so_far_begins, so_far_more, ends_at_last, ends_at_most, ends_by, ends_at_queries}
use Rattle.policy_server.proofs.serving.serve.Goals as goal

pub loop-queries-init : goal.loop-queries-init
loop-queries-init g c = record {
  so_far = so_far_begins c.args.words.now c.args.pass.now (input g.I.Source.left g.I.Source.ends g.I.Source.faults c.args.source.now) (g.O.Sink.taken c.args.sink.now) c.requires.here;
  steady = refl;
  buffer = c.requires.buffer;
}

pub loop-queries-preserved : goal.loop-queries-preserved
loop-queries-preserved g c =
    let b = c.args.words.now in let v = c.loop-queries.invariant in let n = c.loop-queries.queries in
    let i : Input = input g.I.Source.left g.I.Source.ends g.I.Source.faults c.args.source.now in
    let j : Input = input g.I.Source.left g.I.Source.ends g.I.Source.faults c.loop-queries.source in
    let o : Input = input g.I.Source.left g.I.Source.ends g.I.Source.faults c.take_turn.new.source in record {
      so_far = so_far_more b c.args.pass.now c.loop-queries.pass c.take_turn.new.pass i j o
          (g.O.Sink.taken c.args.sink.now) (g.O.Sink.taken c.loop-queries.sink) (g.O.Sink.taken c.take_turn.new.sink) n v.so_far c.in-Answered.ensures.told;
      steady = c.in-Answered.ensures.faults ∙ v.steady;
      buffer = c.in-Answered.ensures.buffer;
    }

pub returns-in-AnsweredLast-clause-run : goal.returns-in-AnsweredLast-clause-run
returns-in-AnsweredLast-clause-run g c =
    let b = c.args.words.now in let v = c.loop-queries.invariant in let n = c.loop-queries.queries in
    let i : Input = input g.I.Source.left g.I.Source.ends g.I.Source.faults c.args.source.now in
    let j : Input = input g.I.Source.left g.I.Source.ends g.I.Source.faults c.loop-queries.source in
    let o : Input = input g.I.Source.left g.I.Source.ends g.I.Source.faults c.take_turn.new.source in
    ends_at_last b c.args.pass.now c.loop-queries.pass c.take_turn.new.pass i j o
    (g.O.Sink.taken c.args.sink.now) (g.O.Sink.taken c.loop-queries.sink) (g.O.Sink.taken c.take_turn.new.sink) n v.so_far c.in-AnsweredLast.ensures.told (omega arith)

pub returns-in-AnsweredLast-2-clause-run : goal.returns-in-AnsweredLast-2-clause-run
returns-in-AnsweredLast-2-clause-run g c =
    let b = c.args.words.now in let v = c.loop-queries.invariant in let n = c.loop-queries.queries in
    let i : Input = input g.I.Source.left g.I.Source.ends g.I.Source.faults c.args.source.now in
    let j : Input = input g.I.Source.left g.I.Source.ends g.I.Source.faults c.loop-queries.source in
    let o : Input = input g.I.Source.left g.I.Source.ends g.I.Source.faults c.take_turn.new.source in
    ends_at_most b c.args.pass.now c.loop-queries.pass c.take_turn.new.pass i j o
    (g.O.Sink.taken c.args.sink.now) (g.O.Sink.taken c.loop-queries.sink) (g.O.Sink.taken c.take_turn.new.sink) n v.so_far c.in-AnsweredLast-2.ensures.told (omega arith)

pub returns-in-Stopped-clause-run : goal.returns-in-Stopped-clause-run
returns-in-Stopped-clause-run g c =
    let b = c.args.words.now in let v = c.loop-queries.invariant in let n = c.loop-queries.queries in
    let i : Input = input g.I.Source.left g.I.Source.ends g.I.Source.faults c.args.source.now in
    let j : Input = input g.I.Source.left g.I.Source.ends g.I.Source.faults c.loop-queries.source in
    let o : Input = input g.I.Source.left g.I.Source.ends g.I.Source.faults c.take_turn.new.source in
    ends_by b c.args.pass.now c.loop-queries.pass c.take_turn.new.pass i j o
    (g.O.Sink.taken c.args.sink.now) (g.O.Sink.taken c.loop-queries.sink) (g.O.Sink.taken c.take_turn.new.sink) n v.so_far (omega arith) c.in-Stopped.end c.in-Stopped.ensures.told

pub returns-clause-run : goal.returns-clause-run
returns-clause-run g c =
    let v = c.loop-queries.invariant in
    let i : Input = input g.I.Source.left g.I.Source.ends g.I.Source.faults c.args.source.now in
    let j : Input = input g.I.Source.left g.I.Source.ends g.I.Source.faults c.loop-queries.source in
    ends_at_queries c.args.words.now c.args.pass.now c.loop-queries.pass i j
    (g.O.Sink.taken c.args.sink.now) (g.O.Sink.taken c.loop-queries.sink) c.loop-queries.queries v.so_far (omega arith)
