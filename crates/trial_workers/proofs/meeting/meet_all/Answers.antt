use Rattle.std.proofs.Common.{◌<◌, ◌≤◌, List, length, ap, arith}
use Rattle.trial_workers.specs.declared.worker.Worker.{Worker}
use Rattle.trial_workers.proofs.Hearing.{one_heard, gathering_ends}
use Rattle.trial_workers.proofs.meeting.meet_all.Goals as goal

pub loop-index-preserved : goal.loop-index-preserved
loop-index-preserved c =
    let ws = c.loop-index.workers in let i = c.loop-index.index in let w = c.index-workers-index.result in
    let below : i < length c.args.workers.now = (let l = ap (λ (x : List Worker). length x) c.loop-index.invariant.same in let t = c.loop-index-test.true in omega arith) in
    one_heard c.args.words.now c.args.workers.now ws i c.loop-index.news c.hear.new.pass w c.hear.new.other below c.loop-index.invariant c.hear.ensures.stays c.hear.ensures.heard c.hear.ensures.other

pub returns : goal.returns
returns c =
    let ws = c.loop-index.workers in let w = c.index-workers-0-2.result in
    let past : length c.args.workers.now ≤ c.loop-index.index = (let l = ap (λ (x : List Worker). length x) c.loop-index.invariant.same in let t = c.loop-index-test.false in omega arith) in
    gathering_ends c.args.words.now c.args.workers.now ws c.loop-index.index c.loop-index.news c.hear-2.new.pass w c.requires.some past c.loop-index.invariant c.hear-2.ensures.stays c.hear-2.ensures.heard
