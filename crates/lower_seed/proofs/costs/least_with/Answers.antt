use Rattle.std.proofs.Common.{rules, min, ap, ◌∙◌}
use Rattle.lower_seed.proofs.LeastCosts.{choice_more}
use Rattle.lower_seed.proofs.costs.least_with.Goals as goal

pub loop-choice-preserved : goal.loop-choice-preserved
loop-choice-preserved c =
    c.smaller-found.ensures ∙ ap (min c.choice-item.result.cost) c.loop-choice.invariant
    ∙ choice_more c.args.least c.as_slice-choice-items.result.now c.loop-choice.choice-index c.choice-item.result (search rules) c.choice-item.is
