use Rattle.std.proofs.Common.{◌≡◌, ◌/◌, min, take, sym, ap, ◌∙◌, subst, arith}
use Rattle.std.specs.Int.{div_ceil}
use Rattle.fixed_round.specs.Words.{word_of}
use Rattle.ground_model.specs.Invariant.{IsGroundProblem}
use Rattle.brtdp_trial.specs.Listed.{last_in}
use Rattle.bellman_backup.specs.Kept.{IsKeptAction}
use Rattle.bellman_backup.specs.Odds.{odds_of}
use Rattle.bellman_backup.proofs.PlacedWeights.{odds_at}
use Rattle.bellman_backup.proofs.KeptReads.{is_inside, chosen_goes_on, chosen_ends}
use Rattle.bellman_backup.proofs.OwnActions.{own_code_is_small, own_code_is_inside, own_has_odds, own_odds, own_action, own_is_kept_in}
use Rattle.bellman_backup.proofs.Finishing.{word_within}
use Rattle.bellman_backup.proofs.recalling.best_of_kept.Goals as goal

pub action-entry-requires : goal.action-entry-requires
action-entry-requires c =
    is_inside c.args.words.now c.args.pass.now c.requires.kept.0 c.args.own c.args.kept.now c.args.row c.loop-index.index c.requires.kept.1
    (let q = c.loop-index-test.true in omega arith)

pub overflow_cast-action : goal.overflow_cast-action
overflow_cast-action c =
    let small = own_code_is_small c.args.words.now c.args.pass.now c.loop-index.pass c.args.own c.args.kept.now c.args.row
    c.requires.kept c.loop-index.invariant.keeps.noted
    c.problem-problem.result.now c.problem-problem.ensures c.penalty-penalty.ensures.valid c.loop-index.index (let q = c.loop-index-test.true in omega arith)
    c.action-entry.result c.action-entry.ensures in omega arith

pub offset_bounds-actions-entry : goal.offset_bounds-actions-entry
offset_bounds-actions-entry c =
    let small = own_code_is_small c.args.words.now c.args.pass.now c.loop-index.pass c.args.own c.args.kept.now c.args.row
    c.requires.kept c.loop-index.invariant.keeps.noted
    c.problem-problem.result.now c.problem-problem.ensures c.penalty-penalty.ensures.valid c.loop-index.index (let q = c.loop-index-test.true in omega arith)
    c.action-entry.result c.action-entry.ensures in omega arith

pub bounds-actions-entry : goal.bounds-actions-entry
bounds-actions-entry c =
    own_code_is_inside c.args.words.now c.args.pass.now c.loop-index.pass c.args.own c.args.kept.now c.args.row c.requires.kept c.loop-index.invariant.keeps.noted
    c.problem-problem.result.now c.problem-problem.ensures c.penalty-penalty.ensures.valid c.loop-index.index (let q = c.loop-index-test.true in omega arith)
    c.action-entry.result c.action-entry.ensures c.actions.result.now c.actions.ensures.value

pub shares-shares-requires : goal.shares-shares-requires
shares-shares-requires c =
    own_has_odds c.args.words.now c.args.pass.now c.loop-index.pass c.args.own c.args.kept.now c.args.row c.requires.kept c.loop-index.invariant.keeps.noted
    c.problem-problem.result.now c.problem-problem.ensures c.penalty-penalty.ensures.valid c.loop-index.index (let q = c.loop-index-test.true in omega arith)
    c.action-entry.result c.action-entry.ensures c.args.weights.now c.requires.weights

pub read_kept-sums-requires-clause-shares : goal.read_kept-sums-requires-clause-shares
read_kept-sums-requires-clause-shares c =
    c.shares-shares.ensures (odds_of c.index-actions-entry.result)
    (own_odds c.args.words.now c.args.pass.now c.loop-index.pass c.args.own c.args.kept.now c.args.row c.requires.kept c.loop-index.invariant.keeps.noted
    c.problem-problem.result.now c.problem-problem.ensures c.penalty-penalty.ensures.valid c.loop-index.index (let q = c.loop-index-test.true in omega arith)
    c.action-entry.result c.action-entry.ensures
    c.actions.result.now c.actions.ensures.value c.index-actions-entry.result c.index-actions-entry.is c.args.weights.now c.requires.weights)

pub den-requires : goal.den-requires
den-requires c =
    own_has_odds c.args.words.now c.args.pass.now c.loop-index.pass c.args.own c.args.kept.now c.args.row c.requires.kept c.loop-index.invariant.keeps.noted
    c.problem-problem.result.now c.problem-problem.ensures c.penalty-penalty.ensures.valid c.loop-index.index (let q = c.loop-index-test.true in omega arith)
    c.action-entry.result c.action-entry.ensures c.args.weights.now c.requires.weights

pub read_kept-sums-requires-clause-action : goal.read_kept-sums-requires-clause-action
read_kept-sums-requires-clause-action c =
    (own_action c.args.words.now c.args.pass.now c.loop-index.pass c.args.own c.args.kept.now c.args.row c.requires.kept c.loop-index.invariant.keeps.noted
    c.problem-problem.result.now c.problem-problem.ensures c.penalty-penalty.ensures.valid c.loop-index.index (let q = c.loop-index-test.true in omega arith)
    c.action-entry.result c.action-entry.ensures
    c.actions.result.now c.actions.ensures.value c.index-actions-entry.result c.index-actions-entry.is).is

pub read_kept-sums-requires-clause-kept : goal.read_kept-sums-requires-clause-kept
read_kept-sums-requires-clause-kept c =
    own_is_kept_in c.args.words.now c.args.pass.now c.loop-index.pass c.args.own c.args.kept.now c.args.row c.requires.kept c.loop-index.invariant.keeps.noted
    c.problem-problem.result.now c.problem-problem.ensures c.penalty-penalty.ensures.valid c.loop-index.index (let q = c.loop-index-test.true in omega arith)
    c.action-entry.result c.action-entry.ensures
    c.actions.result.now c.actions.ensures.value c.index-actions-entry.result c.index-actions-entry.is c.ids.result.now c.ids.ensures

pub take_in-best-requires-clause-den : goal.take_in-best-requires-clause-den
take_in-best-requires-clause-den c =
    let a = c.index-actions-entry.result in
    let at = own_action c.args.words.now c.args.pass.now c.loop-index.pass c.args.own c.args.kept.now c.args.row c.requires.kept c.loop-index.invariant.keeps.noted
    c.problem-problem.result.now c.problem-problem.ensures c.penalty-penalty.ensures.valid c.loop-index.index (let q = c.loop-index-test.true in omega arith)
    c.action-entry.result c.action-entry.ensures
    c.actions.result.now c.actions.ensures.value c.index-actions-entry.result c.index-actions-entry.is in
    let den : c.den.result ≡ a.den = c.den.ensures (odds_of a)
    (odds_at c.args.words.now.problem.actions c.args.weights.now c.requires.weights c.action-entry.result.code a at.coded) in
    let above = at.is.weights.den_above in omega arith

pub take_in-best-requires-clause-bound : goal.take_in-best-requires-clause-bound
take_in-best-requires-clause-bound c =
    let g = c.args.words.now.problem in let s = c.requires.kept.0 in
    let problem : IsGroundProblem g = subst IsGroundProblem c.problem-problem.ensures c.penalty-penalty.ensures.valid in
    word_within g c.args.pass.now.view c.loop-index.pass.view s (take c.loop-index.index c.requires.kept.1.codes) c.loop-index.chosen c.loop-index.best
    (let p = problem.penalty_within in omega arith) (c.loop-index.invariant.chosen_is s c.requires.kept.1)

pub loop-index-preserved : goal.loop-index-preserved
loop-index-preserved c =
    let b = c.args.words.now in let l = c.loop-index.pass in let action = c.action-entry.result in let a = c.index-actions-entry.result in
    let at = own_action c.args.words.now c.args.pass.now c.loop-index.pass c.args.own c.args.kept.now c.args.row c.requires.kept c.loop-index.invariant.keeps.noted
    c.problem-problem.result.now c.problem-problem.ensures c.penalty-penalty.ensures.valid c.loop-index.index (let q = c.loop-index-test.true in omega arith)
    c.action-entry.result c.action-entry.ensures
    c.actions.result.now c.actions.ensures.value c.index-actions-entry.result c.index-actions-entry.is in
    let den : c.den.result ≡ a.den = c.den.ensures (odds_of a) (odds_at b.problem.actions c.args.weights.now c.requires.weights action.code a at.coded) in
    let d = c.take_in-best.ensures in
    chosen_goes_on b c.args.pass.now l c.read_kept-sums.new.pass c.args.own c.args.kept.now c.args.row c.loop-index.chosen c.take_in-best.new.chosen
    c.read_kept-sums.new.steps c.loop-index.best c.take_in-best.result c.loop-index.index action a c.read_kept-sums.result c.loop-index.invariant
    c.read_kept-sums.ensures.keeps (let q = c.loop-index-test.true in omega arith) c.action-entry.ensures at.coded
    (λ z kept. c.read_kept-sums.ensures.read z (subst (λ zs. IsKeptAction l.view z c.args.own zs a action) (sym c.ids.ensures) kept))
    (d.lower ∙ ap (λ n. min (c.read_kept-sums.result.lower / n) c.loop-index.best.lower) den)
    (d.word ∙ ap (λ n. min (word_of (div_ceil c.read_kept-sums.result.upper n) action.code) c.loop-index.best.word) den)
    (λ better. d.better better ∙ ap (λ n. last_in action.code n c.read_kept-sums.new.steps) den) d.same

pub returns-clause-problem : goal.returns-clause-problem
returns-clause-problem c = subst IsGroundProblem c.problem-problem.ensures c.penalty-penalty.ensures.valid

pub returns-clause-best : goal.returns-clause-best
returns-clause-best c =
    let q = c.loop-index-test.false in
    chosen_ends c.args.words.now c.args.pass.now c.loop-index.pass c.args.own c.args.kept.now c.args.row c.loop-index.chosen c.loop-index.best c.loop-index.index
    c.loop-index.invariant (omega arith)
