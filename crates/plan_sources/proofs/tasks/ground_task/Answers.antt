-- What is grounded, and what stops the run in its place.
use Rattle.std.proofs.Common.{◌≡◌, sym, subst, Err}
use Rattle.plan_request.specs.Shown.{shown_sources}
use Rattle.plan_sources.specs.Endings.{MayEnd}
use Rattle.plan_sources.specs.Problems.{ground_task}
use Rattle.plan_sources.proofs.Grounding.{terms_in_range, ground_given, ground_stops}
use Rattle.plan_sources.proofs.tasks.ground_task.Goals as goal

pub ground-requires-clause-in_range : goal.ground-requires-clause-in_range
ground-requires-clause-in_range c = terms_in_range (shown_sources c.args.sources.now) c.requires.terms

pub returns-in-Ok : goal.returns-in-Ok
returns-in-Ok c = ground_given (shown_sources c.args.sources.now) c.args.task.now c.in-Ok.problem c.in-Ok.ensures.exact

pub returns-in-Err : goal.returns-in-Err
returns-in-Err c =
    let s = shown_sources c.args.sources.now in
    let stop = ground_stops s c.args.task.now c.in-Err.refusal c.in-Err.ensures.exact in
    subst (λ e. MayEnd ⊥ (λ r. ground_task s c.args.task.now ≡ r) (Err e)) (sym c.not_grounded.ensures) stop
