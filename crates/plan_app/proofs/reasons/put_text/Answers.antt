use Rattle.plan_app.proofs.Noted.{at_most}
use Rattle.plan_app.proofs.reasons.put_text.Goals as goal

pub returns : goal.returns
returns g c =
    at_most (g.N.Sink.faults c.args.notes.now) (g.N.Sink.faults c.put_all.new.sink) (g.N.Sink.taken c.args.notes.now) (g.N.Sink.taken c.put_all.new.sink) c.args.text.now
    c.put_all.result c.put_all.ensures.all c.put_all.ensures.prefix c.put_all.ensures.cause
