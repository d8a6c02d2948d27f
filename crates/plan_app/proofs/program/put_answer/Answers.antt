-- What is said of the ending: itself, or that there was no memory for its line.
use Rattle.std.proofs.Common.{rules, inl, inr, refl, sym, ◌∙◌, Ok, Err}
use Rattle.plan_request.specs.declared.stop.Stop.TheVariants.{WriteFailed, NoMemory}
use Rattle.std.proofs.KnownBytes.{Appends-nil}
use Rattle.plan_app.proofs.program.put_answer.Goals as goal

pub returns-in-Ok-clause-put : goal.returns-in-Ok-clause-put
returns-in-Ok-clause-put g c = λ written. record {
  said = Ok c.in-Ok.report;
  is_said = inl (sym c.in-Ok.is);
  status_is = c.put.ensures.status written ∙ c.status.ensures;
  put = search (rules, c.put.ensures.put written);
}

pub returns-in-Ok-clause-cut_short : goal.returns-in-Ok-clause-cut_short
returns-in-Ok-clause-cut_short g c = λ four. record {
  said = Ok c.in-Ok.report;
  is_said = inl (sym c.in-Ok.is);
  put = inl (search (rules, c.put.ensures.cut_short four));
}

pub returns-in-Err-WriteFailed-clause-cut_short : goal.returns-in-Err-WriteFailed-clause-cut_short
returns-in-Err-WriteFailed-clause-cut_short g c = λ four. record {
  said = Err WriteFailed;
  is_said = inl (search (rules, c.in-Err-WriteFailed.is, c.in-Err-WriteFailed.field-0-is));
  put = inr (refl, Appends-nil (g.O.Sink.taken c.args.out.now));
}

pub returns-in-Ok-line-clause-put : goal.returns-in-Ok-line-clause-put
returns-in-Ok-line-clause-put g c = λ written. record {
  said = Err c.in-Err.stop;
  is_said = inl (sym c.in-Err.is);
  status_is = c.put-in-Ok-line.ensures.status written ∙ c.status-in-Ok-line.ensures;
  put = search (rules, c.put-in-Ok-line.ensures.put written);
}

pub returns-in-Ok-line-clause-cut_short : goal.returns-in-Ok-line-clause-cut_short
returns-in-Ok-line-clause-cut_short g c = λ four. record {
  said = Err c.in-Err.stop;
  is_said = inl (sym c.in-Err.is);
  put = inl (search (rules, c.put-in-Ok-line.ensures.cut_short four));
}

pub returns-in-Err-line-clause-put : goal.returns-in-Err-line-clause-put
returns-in-Err-line-clause-put g c = λ written. record {
  said = Err NoMemory;
  is_said = inr refl;
  status_is = refl;
  put = Appends-nil (g.O.Sink.taken c.args.out.now);
}
