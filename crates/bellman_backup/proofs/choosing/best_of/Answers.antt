use Rattle.std.proofs.Common.{◌+◌, ◌<◌, length, take, get_or, subst, arith, rules}
use Rattle.std.proofs.lemmas.List.{take_more}
use Rattle.ground_model.specs.Invariant.{IsGroundProblem}
use Rattle.bellman_backup.proofs.Keeping.{keeps_again}
use Rattle.bellman_backup.proofs.Finishing.{action_goes_on, word_within}
use Rattle.bellman_backup.proofs.OpenCodes.{code_is_inside, action_of_code, open_action_is_usable}
use Rattle.bellman_backup.proofs.choosing.best_of.Goals as goal

pub bounds-actions-code : goal.bounds-actions-code
bounds-actions-code c =
    code_is_inside c.args.words.now c.args.state.now c.args.codes.now c.requires.codes c.loop-code.code-index (search rules)
    c.problem-problem.result.now c.problem-problem.ensures c.actions.result.now c.actions.ensures.value

pub read_action-sums-requires-clause-action : goal.read_action-sums-requires-clause-action
read_action-sums-requires-clause-action c =
    open_action_is_usable c.args.words.now c.args.state.now c.args.codes.now c.requires.codes c.loop-code.code-index (search rules)
    c.problem-problem.result.now c.problem-problem.ensures c.actions.result.now c.actions.ensures.value
    c.index-actions-code.result c.index-actions-code.is c.args.pass.now c.loop-code.pass c.penalty-penalty.ensures.valid c.requires.state c.loop-code.invariant.keeps

pub take_in-best-requires-clause-den : goal.take_in-best-requires-clause-den
take_in-best-requires-clause-den c =
    let usable = open_action_is_usable c.args.words.now c.args.state.now c.args.codes.now c.requires.codes c.loop-code.code-index (search rules)
    c.problem-problem.result.now c.problem-problem.ensures c.actions.result.now c.actions.ensures.value
    c.index-actions-code.result c.index-actions-code.is c.args.pass.now c.loop-code.pass c.penalty-penalty.ensures.valid c.requires.state c.loop-code.invariant.keeps in
    let above = usable.action.weights.den_above in omega arith

pub take_in-best-requires-clause-bound : goal.take_in-best-requires-clause-bound
take_in-best-requires-clause-bound c =
    let g = c.args.words.now.problem in
    let problem : IsGroundProblem g = subst IsGroundProblem c.problem-problem.ensures c.penalty-penalty.ensures.valid in
    word_within g c.args.pass.now.view c.loop-code.pass.view c.args.state.now (take c.loop-code.code-index c.args.codes.now) c.loop-code.chosen c.loop-code.best
    (let within = problem.penalty_within in omega arith) c.loop-code.invariant.chosen

pub loop-code-preserved : goal.loop-code-preserved
loop-code-preserved c =
    let b = c.args.words.now in let k = c.args.pass.now in let l = c.loop-code.pass in let m = c.read_action-sums.new.pass in
    let codes = c.args.codes.now in let i = c.loop-code.code-index in let code = get_or codes i 0 in let inv = c.loop-code.invariant in
    let within : i < length codes = search rules in
    let here = action_of_code b c.args.state.now codes c.requires.codes i within c.problem-problem.result.now c.problem-problem.ensures
    c.actions.result.now c.actions.ensures.value c.index-actions-code.result c.index-actions-code.is in
    record {
      keeps = keeps_again b k l m inv.keeps c.read_action-sums.ensures.keeps;
      fits = c.read_action-sums.ensures.fits;
      chosen = action_goes_on b k l m c.args.state.now (take i codes) (take (i + 1) codes) code c.index-actions-code.result c.read_action-sums.result
          c.read_action-sums.new.steps c.loop-code.chosen c.take_in-best.new.chosen c.loop-code.best c.take_in-best.result inv.keeps c.read_action-sums.ensures.keeps
          (take_more codes i 0 within) here c.read_action-sums.ensures.read inv.chosen
          c.take_in-best.ensures.lower c.take_in-best.ensures.word c.take_in-best.ensures.better c.take_in-best.ensures.same;
    }
