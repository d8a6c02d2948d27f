use Rattle.std.proofs.Common.{rules, map, arith, ◌<◌, length}
use Rattle.ground_meaning.specs.choices.Joint.{joined}
use Rattle.outcome_dist.specs.lists.Refusals.{IsTooMany}
use Rattle.outcome_dist.specs.lists.Piles.{merging}
use Rattle.outcome_dist.proofs.lemmas.lists.MergeSteps.{map_refused}
use Rattle.outcome_dist.proofs.lists.merging.put_products.Goals as goal

pub returns-in_err-merged-clause-refused : goal.returns-in_err-merged-clause-refused
returns-in_err-merged-clause-refused c =
    let low : c.loop-other.other-index < length c.args.others.now = omega arith in
    let k : IsTooMany c.in_err-merged.field-0.0 (merging c.args.list (map (joined c.args.first.now) c.args.others.now)) =
    map_refused c.in_err-merged.field-0.0 (joined c.args.first.now) c.loop-other.merged _ c.args.others.now c.loop-other.other-index
    c.other-item.result c.other-item.result low c.other-item.is c.loop-other.invariant c.in_err-merged.ensures.refused in
    search (rules, k)
