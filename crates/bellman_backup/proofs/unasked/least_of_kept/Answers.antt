use Rattle.std.proofs.Common.{◌≡◌, ◌/◌, min, ap, ◌∙◌, subst, arith}
use Rattle.std.specs.Int.{div_ceil}
use Rattle.fixed_round.specs.Words.{word_of}
use Rattle.ground_model.specs.Ground.{Ground}
use Rattle.ground_model.specs.Invariant.{IsGroundProblem}
use Rattle.bellman_backup.specs.Leasts.{HasSummed}
use Rattle.bellman_backup.specs.Odds.{odds_of}
use Rattle.bellman_backup.proofs.PlacedWeights.{odds_at}
use Rattle.bellman_backup.proofs.KeptReads.{is_inside}
use Rattle.bellman_backup.proofs.OwnActions.{own_code_is_small, own_code_is_inside, own_has_odds, own_odds, own_action, own_is_kept_in}
use Rattle.bellman_backup.proofs.Leasts.{least_begins, least_goes_on, least_ends}
use Rattle.bellman_backup.proofs.unasked.least_of_kept.Goals as goal

pub action-entry-requires : goal.action-entry-requires
action-entry-requires c =
    is_inside c.args.words.now c.args.pass.now c.requires.kept.0 c.args.own c.args.kept.now c.args.row c.loop-index.index c.requires.kept.1
    (let q = c.loop-index-test.true in omega arith)

pub overflow_cast-action : goal.overflow_cast-action
overflow_cast-action c =
    let small = own_code_is_small c.args.words.now c.args.pass.now c.loop-index.pass c.args.own c.args.kept.now c.args.row
    c.requires.kept c.loop-index.invariant.is.keeps.noted
    c.problem-problem.result.now c.problem-problem.ensures c.penalty-penalty.ensures.valid c.loop-index.index (let q = c.loop-index-test.true in omega arith)
    c.action-entry.result c.action-entry.ensures in omega arith

pub offset_bounds-actions-entry : goal.offset_bounds-actions-entry
offset_bounds-actions-entry c =
    let small = own_code_is_small c.args.words.now c.args.pass.now c.loop-index.pass c.args.own c.args.kept.now c.args.row
    c.requires.kept c.loop-index.invariant.is.keeps.noted
    c.problem-problem.result.now c.problem-problem.ensures c.penalty-penalty.ensures.valid c.loop-index.index (let q = c.loop-index-test.true in omega arith)
    c.action-entry.result c.action-entry.ensures in omega arith

pub bounds-actions-entry : goal.bounds-actions-entry
bounds-actions-entry c =
    own_code_is_inside c.args.words.now c.args.pass.now c.loop-index.pass c.args.own c.args.kept.now c.args.row c.requires.kept c.loop-index.invariant.is.keeps.noted
    c.problem-problem.result.now c.problem-problem.ensures c.penalty-penalty.ensures.valid c.loop-index.index (let q = c.loop-index-test.true in omega arith)
    c.action-entry.result c.action-entry.ensures c.actions.result.now c.actions.ensures.value

pub shares-shares-requires : goal.shares-shares-requires
shares-shares-requires c =
    own_has_odds c.args.words.now c.args.pass.now c.loop-index.pass c.args.own c.args.kept.now c.args.row c.requires.kept c.loop-index.invariant.is.keeps.noted
    c.problem-problem.result.now c.problem-problem.ensures c.penalty-penalty.ensures.valid c.loop-index.index (let q = c.loop-index-test.true in omega arith)
    c.action-entry.result c.action-entry.ensures c.args.weights.now c.requires.weights

pub sum_kept-sums-requires-clause-shares : goal.sum_kept-sums-requires-clause-shares
sum_kept-sums-requires-clause-shares c =
    c.shares-shares.ensures (odds_of c.index-actions-entry.result)
    (own_odds c.args.words.now c.args.pass.now c.loop-index.pass c.args.own c.args.kept.now c.args.row c.requires.kept c.loop-index.invariant.is.keeps.noted
    c.problem-problem.result.now c.problem-problem.ensures c.penalty-penalty.ensures.valid c.loop-index.index (let q = c.loop-index-test.true in omega arith)
    c.action-entry.result c.action-entry.ensures
    c.actions.result.now c.actions.ensures.value c.index-actions-entry.result c.index-actions-entry.is c.args.weights.now c.requires.weights)

pub den-requires : goal.den-requires
den-requires c =
    own_has_odds c.args.words.now c.args.pass.now c.loop-index.pass c.args.own c.args.kept.now c.args.row c.requires.kept c.loop-index.invariant.is.keeps.noted
    c.problem-problem.result.now c.problem-problem.ensures c.penalty-penalty.ensures.valid c.loop-index.index (let q = c.loop-index-test.true in omega arith)
    c.action-entry.result c.action-entry.ensures c.args.weights.now c.requires.weights

pub sum_kept-sums-requires-clause-action : goal.sum_kept-sums-requires-clause-action
sum_kept-sums-requires-clause-action c =
    (own_action c.args.words.now c.args.pass.now c.loop-index.pass c.args.own c.args.kept.now c.args.row c.requires.kept c.loop-index.invariant.is.keeps.noted
    c.problem-problem.result.now c.problem-problem.ensures c.penalty-penalty.ensures.valid c.loop-index.index (let q = c.loop-index-test.true in omega arith)
    c.action-entry.result c.action-entry.ensures
    c.actions.result.now c.actions.ensures.value c.index-actions-entry.result c.index-actions-entry.is).is

pub sum_kept-sums-requires-clause-kept : goal.sum_kept-sums-requires-clause-kept
sum_kept-sums-requires-clause-kept c =
    own_is_kept_in c.args.words.now c.args.pass.now c.loop-index.pass c.args.own c.args.kept.now c.args.row c.requires.kept c.loop-index.invariant.is.keeps.noted
    c.problem-problem.result.now c.problem-problem.ensures c.penalty-penalty.ensures.valid c.loop-index.index (let q = c.loop-index-test.true in omega arith)
    c.action-entry.result c.action-entry.ensures
    c.actions.result.now c.actions.ensures.value c.index-actions-entry.result c.index-actions-entry.is c.ids.result.now c.ids.ensures

pub with-least-requires-clause-dens : goal.with-least-requires-clause-dens
with-least-requires-clause-dens c =
    let a = c.index-actions-entry.result in
    let at = own_action c.args.words.now c.args.pass.now c.loop-index.pass c.args.own c.args.kept.now c.args.row c.requires.kept c.loop-index.invariant.is.keeps.noted
    c.problem-problem.result.now c.problem-problem.ensures c.penalty-penalty.ensures.valid c.loop-index.index (let q = c.loop-index-test.true in omega arith)
    c.action-entry.result c.action-entry.ensures
    c.actions.result.now c.actions.ensures.value c.index-actions-entry.result c.index-actions-entry.is in
    let den : c.den.result ≡ a.den = c.den.ensures (odds_of a)
    (odds_at c.args.words.now.problem.actions c.args.weights.now c.requires.weights c.action-entry.result.code a at.coded) in
    let above = at.is.weights.den_above in (c.loop-index.invariant.den, omega arith)

pub with-least-requires-clause-bound : goal.with-least-requires-clause-bound
with-least-requires-clause-bound c =
    let problem : IsGroundProblem c.args.words.now.problem = subst IsGroundProblem c.problem-problem.ensures c.penalty-penalty.ensures.valid in
    let penalty = problem.penalty_within in let first = c.requires.first in let word = c.loop-index.invariant.word in omega arith

pub loop-index-init : goal.loop-index-init
loop-index-init c =
    let b = c.args.words.now in
    let penalty = c.penalty-penalty.ensures.value ∙ ap (λ (p : Ground). p.penalty) c.problem-problem.ensures in
    least_begins b c.args.pass.now c.args.own c.args.kept.now c.args.row c.args.first c.penalty-penalty.result penalty c.requires.here c.requires.first

pub loop-index-preserved : goal.loop-index-preserved
loop-index-preserved c =
    let b = c.args.words.now in let l = c.loop-index.pass in let action = c.action-entry.result in let a = c.index-actions-entry.result in
    let at = own_action c.args.words.now c.args.pass.now c.loop-index.pass c.args.own c.args.kept.now c.args.row c.requires.kept c.loop-index.invariant.is.keeps.noted
    c.problem-problem.result.now c.problem-problem.ensures c.penalty-penalty.ensures.valid c.loop-index.index (let q = c.loop-index-test.true in omega arith)
    c.action-entry.result c.action-entry.ensures
    c.actions.result.now c.actions.ensures.value c.index-actions-entry.result c.index-actions-entry.is in
    let den : c.den.result ≡ a.den = c.den.ensures (odds_of a) (odds_at b.problem.actions c.args.weights.now c.requires.weights action.code a at.coded) in
    let d = c.with-least.ensures in let m = c.sum_kept-sums.new.pass in
    least_goes_on b c.args.pass.now l m c.args.own c.args.kept.now c.args.row c.args.first c.loop-index.least c.with-least.result c.loop-index.index action a
    c.sum_kept-sums.result c.loop-index.invariant c.sum_kept-sums.ensures.keeps (let q = c.loop-index-test.true in omega arith) c.action-entry.ensures at.coded
    (subst (λ zs. HasSummed b.problem l.view m.view c.args.own zs a action c.sum_kept-sums.result) c.ids.ensures c.sum_kept-sums.ensures.summed)
    d.den (d.lower ∙ ap (λ n. min (c.sum_kept-sums.result.lower / n) (c.loop-index.least.mean.sum / c.loop-index.least.mean.den)) den)
    (d.word ∙ ap (λ n. min (word_of (div_ceil c.sum_kept-sums.result.upper n) action.code) c.loop-index.least.word) den)

pub returns-clause-problem : goal.returns-clause-problem
returns-clause-problem c = subst IsGroundProblem c.problem-problem.ensures c.penalty-penalty.ensures.valid

pub returns-clause-least : goal.returns-clause-least
returns-clause-least c =
    let b = c.args.words.now in let row = c.args.row in let i = c.loop-index.index in let so = c.loop-index.invariant in
    let q = c.loop-index-test.false in
    least_ends b c.args.pass.now c.loop-index.pass c.args.own c.args.kept.now row c.args.first c.loop-index.least i so (omega arith)
