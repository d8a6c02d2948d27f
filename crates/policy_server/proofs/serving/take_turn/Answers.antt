-- Turns by what their parts told.
use Rattle.std.proofs.Common.{◌<◌, refl, sym, subst, length, rules}
use Rattle.policy_server.specs.declared.ending.Turn.{Turn}
use Rattle.policy_server.specs.Serving.{Input, input, long_line}
use Rattle.policy_server.specs.Parts.{TellsTurn, TurnFaults}
use Rattle.policy_server.proofs.Turned.{is_put, answered_turn, last_turn, long_turn, faults_after}
use Rattle.policy_server.proofs.serving.take_turn.Goals as goal

pub returns-in-Whole-clause-told : goal.returns-in-Whole-clause-told
returns-in-Whole-clause-told g c =
    let b = c.args.words.now in let k = c.args.pass.now in let l = c.answer_line.new.pass in
    let i : Input = input g.I.Source.left g.I.Source.ends g.I.Source.faults c.args.source.now in
    let j : Input = input g.I.Source.left g.I.Source.ends g.I.Source.faults c.take_line.new.source in
    let old = g.O.Sink.taken c.args.sink.now in let new = g.O.Sink.taken c.answer_line.new.sink in
    let told = c.in-Whole.ensures.told in
    subst (λ (t : Turn). TellsTurn b k l i j old new t) (sym c.unless_failed.ensures)
    (answered_turn b k l i j c.take_line.new.line.bytes old new c.answer_line.result told.0 told.1 c.answer_line.ensures.told)

pub returns-in-Whole-clause-faults : goal.returns-in-Whole-clause-faults
returns-in-Whole-clause-faults g c =
    let old = g.O.Sink.faults c.args.sink.now in let new = g.O.Sink.faults c.answer_line.new.sink in
    subst (λ (t : Turn). TurnFaults old new t) (sym c.unless_failed.ensures) (faults_after old new c.answer_line.result _ (λ e. e) c.answer_line.ensures.cause)

pub returns-in-Last-2-clause-told : goal.returns-in-Last-2-clause-told
returns-in-Last-2-clause-told g c =
    let b = c.args.words.now in let k = c.args.pass.now in let l = c.answer_line-in-Last-2.new.pass in
    let i : Input = input g.I.Source.left g.I.Source.ends g.I.Source.faults c.args.source.now in
    let j : Input = input g.I.Source.left g.I.Source.ends g.I.Source.faults c.take_line.new.source in
    let old = g.O.Sink.taken c.args.sink.now in let new = g.O.Sink.taken c.answer_line-in-Last-2.new.sink in
    let told = c.in-Last-2.ensures.told in
    let some : 0 < length c.take_line.new.line.bytes = search rules in
    subst (λ (t : Turn). TellsTurn b k l i j old new t) (sym c.unless_failed-in-Last-2.ensures)
    (last_turn b k l i j c.take_line.new.line.bytes old new c.answer_line-in-Last-2.result told.0 told.1 some c.answer_line-in-Last-2.ensures.told)

pub returns-in-Last-2-clause-faults : goal.returns-in-Last-2-clause-faults
returns-in-Last-2-clause-faults g c =
    let old = g.O.Sink.faults c.args.sink.now in let new = g.O.Sink.faults c.answer_line-in-Last-2.new.sink in
    subst (λ (t : Turn). TurnFaults old new t) (sym c.unless_failed-in-Last-2.ensures) (faults_after old new c.answer_line-in-Last-2.result _ (λ e. e) c.answer_line-in-Last-2.ensures.cause)

pub returns-in-Long-clause-told : goal.returns-in-Long-clause-told
returns-in-Long-clause-told g c =
    let b = c.args.words.now in let k = c.args.pass.now in
    let i : Input = input g.I.Source.left g.I.Source.ends g.I.Source.faults c.args.source.now in
    let j : Input = input g.I.Source.left g.I.Source.ends g.I.Source.faults c.take_line.new.source in
    let old = g.O.Sink.taken c.args.sink.now in let new = g.O.Sink.taken c.put_all.new.sink in
    let told = c.in-Long.ensures.told in
    subst (λ (t : Turn). TellsTurn b k k i j old new t) (sym c.unless_failed-in-Long.ensures)
    (long_turn b k k i j _ old new c.put_all.result refl told.1 told.2 (is_put long_line old new c.put_all.result c.put_all.ensures.all c.put_all.ensures.prefix))

pub returns-in-Long-clause-faults : goal.returns-in-Long-clause-faults
returns-in-Long-clause-faults g c =
    let old = g.O.Sink.faults c.args.sink.now in let new = g.O.Sink.faults c.put_all.new.sink in
    subst (λ (t : Turn). TurnFaults old new t) (sym c.unless_failed-in-Long.ensures) (faults_after old new c.put_all.result _ (λ e. e) c.put_all.ensures.cause)
