use Rattle.trial_workers.specs.calls.Calls.{Accepts}
use Rattle.trial_workers.proofs.lemmas.calls.Places.{all_behind}
use Rattle.trial_workers.proofs.calls.+places.Goals as goal

pub call_each-call_both-requires-clause-others : goal.call_each-call_both-requires-clause-others
call_each-call_both-requires-clause-others g t c κs within =
    all_behind (Accepts g.F.Fn c.args.f.now) c.in-Some.ensures.cases.0 c.requires
