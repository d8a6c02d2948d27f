use Rattle.std.proofs.Common.{◌≡◌, drop}
use Rattle.ground_meaning.specs.choices.Joint.{common_divisor}
use Rattle.outcome_dist.proofs.lists.narrowing.common_divisor.Given as goal

abbrev pub invariant-loop-draft : goal.invariant-loop-draft
invariant-loop-draft l = common_divisor l.divisor (drop l.draft-index l.drafts) ≡ common_divisor l.den l.drafts
