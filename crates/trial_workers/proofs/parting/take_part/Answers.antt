use Rattle.trial_workers.proofs.Dividing.{part_is_taken}
use Rattle.trial_workers.proofs.parting.take_part.Goals as goal

pub returns : goal.returns
returns g c =
    part_is_taken c.args.words.now c.args.effort.now c.args.worker.now c.try_all-scratch.new.worker c.sweep.new.pass _ c.try_all-scratch.result
    c.sweep.ensures.stays c.sweep.ensures.swept c.sweep.ensures.placed c.try_all-scratch.ensures.tried c.try_all-scratch.ensures.scratch
