use Rattle.std.proofs.Common.{◌<◌, ◌+◌, length, get_or, slice_set, sym, subst, arith}
use Rattle.trial_workers.proofs.Hearing.{Preparing, one_prepared}
use Rattle.trial_workers.proofs.meeting.prepare.Goals as goal

pub loop-index-preserved : goal.loop-index-preserved
loop-index-preserved c = λ e.
    let b = c.args.words.now in let d = c.args.division.now in let os = c.args.workers.now in let v = (get_or os 0 e).pass.view in
    let ns = c.loop-index.workers in let i = c.loop-index.index in let w = c.index-workers-index.result in let n = c.prepare_one.new.worker in
    let below : i < length os = (let count = c.requires.count in let test = c.loop-index-test.true in omega arith) in
    subst (Preparing b d v os (slice_set ns i n) (i + 1)) (sym c.prepare_one.ensures.news)
    (one_prepared b d v os ns i c.loop-index.news w n below (c.loop-index.invariant e) c.prepare_one.ensures.worker)
