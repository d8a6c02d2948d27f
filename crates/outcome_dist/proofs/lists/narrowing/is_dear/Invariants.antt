use Rattle.std.proofs.Common.{◌≡◌, ◌<◌, ◌+◌, ◌^◌, drop}
use Rattle.plain_list.specs.weighted.Mean.{total}
use Rattle.ground_model.specs.declared.action.Guarded.{Guarded}
use Rattle.ground_meaning.specs.choices.Joint.{charged}
use Rattle.ground_meaning.specs.choices.Limits.{whole_cost}
use Rattle.outcome_dist.proofs.lists.narrowing.is_dear.Given as goal

abbrev pub invariant-loop-part : goal.invariant-loop-part
invariant-loop-part l =
    (l.whole < 2 ^ 65) × (l.whole + total (λ (x : Guarded). x.cost) (drop l.part-index l.part-items) ≡ whole_cost (charged l.base l.fn.draft))
