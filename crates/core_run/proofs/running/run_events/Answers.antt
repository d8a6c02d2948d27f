-- Each event is tested before it is done.
use Rattle.std.proofs.Common.{length, take, sym, ap, subst, ◌∙◌}
use Rattle.std.proofs.lemmas.List.{take_all, length-replicate}
use Rattle.bound_core.specs.Core.{Core, width}
use Rattle.bound_core.specs.Events.{Allowed, after, AreAllowed}
use Rattle.core_run.specs.Run.{begun}
use Rattle.core_run.proofs.Prefixes.{allowed_more, after_more, stays_sound, sound_now, bounded_now, refused_now, may_now}
use Rattle.core_run.proofs.running.run_events.Goals as goal

pub loop-index-init : goal.loop-index-init
loop-index-init c = record {
  fits = ap length c.in_ok-next.ensures ∙ length-replicate (width c.args.problem.now) 0;
  formed = c.in_ok-board.ensures.board.1;
  allowed = tt;
  core = c.in_ok-board.ensures.board.0;
}

pub is_allowed-requires-clause-bounded : goal.is_allowed-requires-clause-bounded
is_allowed-requires-clause-bounded c =
    bounded_now c.args.problem.now c.begin.ensures.valid c.loop-index.board
    (sound_now c.args.problem.now c.begin.ensures.valid c.loop-index.board (take c.loop-index.index c.args.events.now)
    c.loop-index.invariant.allowed c.loop-index.invariant.core)

pub returns-then-not-is_allowed-clause-answer : goal.returns-then-not-is_allowed-clause-answer
returns-then-not-is_allowed-clause-answer c =
    refused_now c.args.problem.now c.begin.ensures.valid c.loop-index.board c.args.events.now c.loop-index.index c.index-events-index.result
    c.loop-index.invariant.formed c.loop-index.invariant.allowed c.loop-index.invariant.core c.loop-index-test.true c.index-events-index.is
    (sym c.is_allowed.ensures.value ∙ c.if-not-is_allowed.true)

pub step-requires : goal.step-requires
step-requires c =
    may_now c.args.problem.now c.begin.ensures.valid c.loop-index.board c.args.events.now c.loop-index.index c.index-events-index.result
    c.loop-index.invariant.formed c.loop-index.invariant.allowed c.loop-index.invariant.core
    (sym c.is_allowed.ensures.value ∙ c.if-not-is_allowed.false)

pub loop-index-preserved : goal.loop-index-preserved
loop-index-preserved c =
    let may = may_now c.args.problem.now c.begin.ensures.valid c.loop-index.board c.args.events.now c.loop-index.index c.index-events-index.result
    c.loop-index.invariant.formed c.loop-index.invariant.allowed c.loop-index.invariant.core
    (sym c.is_allowed.ensures.value ∙ c.if-not-is_allowed.false) in
    record {
      fits = c.is_allowed.ensures.fits;
      formed = c.in_ok-step.ensures.formed;
      allowed = allowed_more c.args.problem.now (begun c.args.problem.now) c.args.events.now c.loop-index.index c.index-events-index.result
          c.loop-index-test.true c.index-events-index.is c.loop-index.invariant.allowed
          (subst (λ (core : Core). Allowed c.args.problem.now core c.index-events-index.result) c.loop-index.invariant.core may.allowed);
      core = c.in_ok-step.ensures.core
          ∙ ap (λ (core : Core). after c.args.problem.now core c.index-events-index.result) c.loop-index.invariant.core
          ∙ sym (after_more c.args.problem.now (begun c.args.problem.now) c.args.events.now c.loop-index.index c.index-events-index.result
          c.loop-index-test.true c.index-events-index.is);
    }

pub returns-clause-sound : goal.returns-clause-sound
returns-clause-sound c =
    stays_sound c.args.problem.now c.begin.ensures.valid c.args.events.now
    (subst (AreAllowed c.args.problem.now (begun c.args.problem.now)) (take_all c.loop-index.index c.args.events.now c.loop-index-test.false)
    c.loop-index.invariant.allowed)
