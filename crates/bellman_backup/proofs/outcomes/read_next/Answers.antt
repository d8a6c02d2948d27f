use Rattle.std.proofs.Common.{◌∙◌, None, refl, ap}
use Rattle.fixed_round.specs.Words.{value_of}
use Rattle.bound_core.specs.Numbers.{first_word}
use Rattle.brtdp_trial.specs.declared.step.Step.{Step}
use Rattle.bellman_backup.proofs.Keeping.{keeps_again}
use Rattle.bellman_backup.proofs.Stepping.{keeps_interned, none_is_next, next_since}
use Rattle.bellman_backup.proofs.outcomes.read_next.Goals as goal

pub returns-in-Id-clause-keeps : goal.returns-in-Id-clause-keeps
returns-in-Id-clause-keeps c =
    let b = c.args.words.now in let k = c.args.pass.now in let l = c.intern_near.new.pass in let m = c.read_id.new.pass in
    keeps_again b k l m (keeps_interned b k l c.in-Id.ensures.goes_on) c.read_id.ensures.keeps

pub returns-in-Id-clause-read : goal.returns-in-Id-clause-read
returns-in-Id-clause-read c =
    next_since c.args.words.now c.args.pass.now c.intern_near.new.pass c.read_id.new.pass c.args.next.now c.args.weight c.read_id.result
    c.in-Id.ensures.goes_on (c.read_id.ensures.read c.args.next.now c.in-Id.ensures.told)

pub returns-in-Full-clause-read : goal.returns-in-Full-clause-read
returns-in-Full-clause-read c =
    let upper = c.first_upper.result in
    let x : Step = record { weight = c.args.weight; id = None; lower = 0; upper = upper } in
    none_is_next c.args.words.now c.args.pass.now c.intern_near.new.pass c.args.next.now c.args.weight x
    c.requires.here c.in-Full.ensures.goes_on c.in-Full.ensures.told upper
    (c.first_upper.ensures ∙ ap (λ g. value_of (first_word g c.args.next.now)) c.problem.ensures) refl
