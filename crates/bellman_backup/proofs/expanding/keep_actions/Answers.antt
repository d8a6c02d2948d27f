use Rattle.std.proofs.Common.{◌<◌, length, get_or, refl, sym, ap, ◌∙◌, subst, arith}
use Rattle.ground_model.specs.Ground.{Ground}
use Rattle.ground_model.specs.Invariant.{IsGroundProblem}
use Rattle.ground_step.specs.Steps.{choices_of}
use Rattle.bellman_backup.proofs.Keeping.{keeps_again}
use Rattle.bellman_backup.proofs.TransitionsKept.{actions_begin, actions_go_on}
use Rattle.bellman_backup.proofs.Stepping.{problem_of}
use Rattle.bellman_backup.proofs.OpenCodes.{open_code_within, choices_are_usable}
use Rattle.bellman_backup.proofs.expanding.keep_actions.Goals as goal

pub loop-code-init : goal.loop-code-init
loop-code-init c = record {
  so = actions_begin c.args.words.now c.args.pass.now c.args.state.now c.args.codes.now c.args.kept.now c.requires.here;
  spare = λ _. refl;
  fits = c.requires.fits;
}

pub choices-choices-requires : goal.choices-choices-requires
choices-choices-requires c =
    subst (λ (g : Ground). get_or c.args.codes.now c.loop-code.code-index 0 < length g.actions) (sym c.requires.problem)
    (open_code_within c.args.words.now.problem c.args.state.now c.args.codes.now c.requires.codes c.loop-code.code-index c.loop-code-test.true)

pub keep_action-requires-clause-action : goal.keep_action-requires-clause-action
keep_action-requires-clause-action c =
    let b = c.args.words.now in let l = c.loop-code.pass in let keeps = c.loop-code.invariant.so.keeps in
    choices_are_usable b.problem c.args.state.now c.args.codes.now c.requires.codes c.loop-code.code-index c.loop-code-test.true
    c.args.pass.now.view l.view c.choices-choices.result.now (subst IsGroundProblem c.requires.problem c.choices-choices.ensures.valid)
    (problem_of b l keeps.here) keeps.noted c.requires.state
    (c.choices-choices.ensures.value ∙ ap (λ (g : Ground). choices_of g (get_or c.args.codes.now c.loop-code.code-index 0)) c.requires.problem)

pub returns-then-not-keep_action-clause-keeps : goal.returns-then-not-keep_action-clause-keeps
returns-then-not-keep_action-clause-keeps c =
    keeps_again c.args.words.now c.args.pass.now c.loop-code.pass c.keep_action.new.pass c.loop-code.invariant.so.keeps c.keep_action.ensures.keeps

pub loop-code-preserved : goal.loop-code-preserved
loop-code-preserved c =
    let b = c.args.words.now in let k = c.args.pass.now in let l = c.loop-code.pass in let m = c.keep_action.new.pass in
    let s = c.args.state.now in let codes = c.args.codes.now in let i = c.loop-code.code-index in record {
      so = actions_go_on b k l m s codes c.args.kept.now c.loop-code.kept c.keep_action.new.kept i (get_or codes i 0) c.loop-code.invariant.so
          c.keep_action.ensures.keeps c.keep_action.ensures.loads c.keep_action.ensures.grown (c.keep_action.ensures.kept c.if-not-keep_action.false) refl;
      spare = λ find. c.keep_action.ensures.spare find ∙ c.loop-code.invariant.spare find;
      fits = c.keep_action.ensures.fits;
    }

pub returns-clause-kept : goal.returns-clause-kept
returns-clause-kept c = λ _.
    let so = c.loop-code.invariant.so in let all = c.loop-code-test.false in let end = c.loop-code.auto.code-index-end in
    record { count = (let n = so.count in omega arith); each = λ own is i below. so.each own is i (omega arith) }
