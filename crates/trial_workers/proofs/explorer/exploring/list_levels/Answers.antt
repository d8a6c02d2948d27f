-- Where the listed states are too many the levels before are the answer, and where all are expanded they are.
use Rattle.std.proofs.Common.{◌≡◌, length, Some, None, sym, subst, arith}
use Rattle.ground_model.specs.Ground.{Ground}
use Rattle.ground_model.specs.Steps.{ground_process, ground_starts}
use Rattle.trial_workers.specs.explorer.Explored.{AreLevels, IsExplored, IsAnswer}
use Rattle.trial_workers.specs.explorer.Found.{IsRoomFor}
use Rattle.trial_workers.specs.explorer.Exploring.{Exploring, IsUnderWay, HasStopped}
use Rattle.trial_workers.proofs.lemmas.explorer.Answered.{if_ok, answered}
use Rattle.trial_workers.proofs.lemmas.explorer.ListedLevels.{ends}
use Rattle.trial_workers.proofs.explorer.exploring.list_levels.Goals as goal

pub loop-levels-init : goal.loop-levels-init
loop-levels-init c = record {
  under_way = subst (λ (g : Ground). IsUnderWay g c.args.most c.in_ok-levels.levels) c.problem-problem.ensures
      (c.in_ok-levels.ensures c.args.most c.requires.enough);
  room = subst (λ (g : Ground). IsRoomFor g c.in_ok-scratch.scratch) c.problem-problem.ensures c.in_ok-scratch.ensures;
}

pub returns-then-listed-most : goal.returns-then-listed-most
returns-then-listed-most c =
    let g = c.args.index.now in let most = c.args.most in
    let now = c.expand_next.new.self in
    let stopped : HasStopped g most now = c.in_ok-listed.ensures.stopped (omega (arith, c.if-listed-most.true)) in
    if_ok c.answer.result (IsAnswer now.listing now.front.level (Some now.front.depth)) (IsExplored g most)
    (answered g most now.listing now.front.level (Some now.front.depth) stopped) c.answer.ensures

pub returns : goal.returns
returns c =
    let g = c.args.index.now in let most = c.args.most in let p = ground_process g in let starts = ground_starts g in
    let levels = c.loop-levels.levels in
    let front = levels.front in
    let l = levels.listing in
    let now = c.loop-levels.invariant.under_way in
    let over : levels.next ≡ length l =
    omega (arith, now.explores.next_within, now.explores.level_within, c.len.ensures.count, c.loop-levels-test.false) in
    let all : Exploring p starts most (length l) front.level front.depth l =
    subst (λ n. Exploring p starts most n front.level front.depth l) over now.explores in
    let are : AreLevels p starts most l c.len-all.result None =
    subst (λ n. AreLevels p starts most l n None) (sym c.len-all.ensures.count) (ends p starts most front.level front.depth l all) in
    if_ok c.answer-2.result (IsAnswer l c.len-all.result None) (IsExplored g most)
    (answered g most l c.len-all.result None are) c.answer-2.ensures
