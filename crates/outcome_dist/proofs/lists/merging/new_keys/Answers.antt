use Rattle.std.proofs.Common.{◌<◌, length, arith}
use Rattle.outcome_dist.proofs.lemmas.lists.MergeSteps.{keys_step}
use Rattle.outcome_dist.proofs.lists.merging.new_keys.Goals as goal

pub loop-draft-preserved : goal.loop-draft-preserved
loop-draft-preserved c =
    let low : c.loop-draft.draft-index < length c.args.list.now = omega arith in
    keys_step c.loop-draft.keys.keys c.insert.new.self.keys c.args.list.now c.in-Ok.key c.loop-draft.draft-index c.draft-item.result c.draft-item.result
    low c.draft-item.is c.loop-draft.invariant c.in-Ok.ensures c.in_default-insert.ensures.keys
