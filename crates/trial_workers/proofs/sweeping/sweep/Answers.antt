use Rattle.std.proofs.Common.{◌-◌, arith}
use Rattle.trial_workers.proofs.Falling.{one_id_more}
use Rattle.trial_workers.proofs.sweeping.sweep.Goals as goal

pub loop-id-preserved : goal.loop-id-preserved
loop-id-preserved c =
    one_id_more c.args.words.now c.args.pass.now c.loop-id.pass c.narrow.new.pass c.loop-id.scratch c.narrow.new.scratch
    c.loop-id.id (c.loop-id.id - 1) c.args.past (omega arith) c.loop-id.invariant c.narrow.ensures.keeps c.narrow.ensures.scratch c.narrow.ensures.narrows c.narrow.ensures.places
