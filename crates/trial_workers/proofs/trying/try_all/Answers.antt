use Rattle.std.proofs.Common.{◌<◌, arith}
use Rattle.trial_workers.proofs.Running.{one_trial_more, all_tried}
use Rattle.trial_workers.proofs.trying.try_all.Goals as goal

pub loop-number-preserved : goal.loop-number-preserved
loop-number-preserved g c =
    let b = c.args.words.now in let e = c.args.effort.now in let v = c.args.worker.now in let w = c.loop-number.worker in
    let below : c.loop-number.number < v.past_trial = (let t = c.loop-number-test.true in omega arith) in
    one_trial_more b e v w c.loop-number.scratch c.race-scratch.new.pass c.race-scratch.result c.race-scratch.new.path c.loop-number.number c.loop-number.invariant below
    c.race-scratch.ensures.stays c.race-scratch.ensures.scratch c.race-scratch.ensures.room c.race-scratch.ensures.run c.race-scratch.ensures.trial c.race-scratch.ensures.known

pub returns-clause-tried : goal.returns-clause-tried
returns-clause-tried g c =
    all_tried c.args.words.now c.args.effort.now c.args.worker.now c.loop-number.worker c.loop-number.scratch c.loop-number.number c.loop-number.invariant
    (let past = c.loop-number-test.false in omega arith)
