use Rattle.std.proofs.Common.{rules, [], arith, ◌<◌, length}
use Rattle.plain_list.specs.weighted.Mean.{products}
use Rattle.ground_meaning.specs.choices.Joint.{joined}
use Rattle.outcome_dist.specs.lists.Refusals.{IsTooMany}
use Rattle.outcome_dist.specs.lists.Piles.{merging}
use Rattle.outcome_dist.proofs.lemmas.lists.MergeSteps.{products_step, products_refused}
use Rattle.outcome_dist.proofs.lists.merging.multiply.Goals as goal

pub loop-draft-preserved : goal.loop-draft-preserved
loop-draft-preserved c =
    let low : c.loop-draft.draft-index < length c.args.first.now = omega arith in
    products_step c.loop-draft.merged c.in_ok-merged.merged _ c.args.first.now c.args.others.now c.loop-draft.draft-index
    c.draft-item.result c.draft-item.result low c.draft-item.is c.loop-draft.invariant c.in_ok-merged.ensures.put

pub returns-in_err-merged-clause-refused : goal.returns-in_err-merged-clause-refused
returns-in_err-merged-clause-refused c =
    let low : c.loop-draft.draft-index < length c.args.first.now = omega arith in
    let k : IsTooMany c.in_err-merged.field-0.0 (merging [] (products joined c.args.first.now c.args.others.now)) =
    products_refused c.in_err-merged.field-0.0 c.loop-draft.merged _ c.args.first.now c.args.others.now c.loop-draft.draft-index
    c.draft-item.result c.draft-item.result low c.draft-item.is c.loop-draft.invariant c.in_err-merged.ensures.refused in
    search (rules, k)
