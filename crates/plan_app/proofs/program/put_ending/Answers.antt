-- The reason is that of the stop whose line was put.
use Rattle.std.proofs.Common.{◌∙◌}
use Rattle.plan_app.proofs.Noted.{has_stop, put_whole_at}
use Rattle.plan_app.proofs.program.put_ending.Goals as goal

pub returns-clause-reasons : goal.returns-clause-reasons
returns-clause-reasons g c = λ has.
    let status = c.put_answer-status.result in
    let h = has_stop c.args.ending status (g.O.Sink.taken c.args.out.now) (g.O.Sink.taken c.put_answer-status.new.out) has
    (c.put_answer-status.ensures.put (put_whole_at status has)) in record {
      stop = h.stop;
      status_is = h.status_is;
      line = (g.O.Sink.taken c.args.out.now, h.put);
      reason = c.put_reason.ensures.reason has h.stop (c.stop_in-stopped.ensures ∙ h.is);
    }
