use Rattle.std.proofs.Common.{◌≡◌, drop}
use Rattle.std.specs.List.{list_any}
use Rattle.ppddl_model.specs.declared.tree.Branch.{Branch}
use Rattle.ppddl_model.specs.Costs.{decreases}
use Rattle.ground_terms.proofs.sizes.costs.+decreases.Given as goal

abbrev pub decreases-decreases : goal.decreases-decreases
decreases-decreases l = goal.size-decreases l

abbrev pub invariant-loop-part : goal.invariant-loop-part
invariant-loop-part l = list_any decreases (drop l.part-index l.part-items) ≡ decreases l.effect

abbrev pub invariant-loop-branch : goal.invariant-loop-branch
invariant-loop-branch l = list_any (λ (x : Branch). decreases x.effect) (drop l.branch-index l.branch-items) ≡ decreases l.effect
