use Rattle.std.proofs.Common.{◌≡◌, drop}
use Rattle.std.specs.List.{list_all}
use Rattle.ppddl_model.specs.declared.tree.Branch.{Branch}
use Rattle.grounder.specs.outset.Draws.{is_modest}
use Rattle.grounder.proofs.outset.draws.+is_modest.Given as goal

abbrev pub decreases-is_modest : goal.decreases-is_modest
decreases-is_modest l = goal.size-is_modest l

abbrev pub invariant-loop-part : goal.invariant-loop-part
invariant-loop-part l = list_all (is_modest l.most l.dearest) (drop l.part-index l.part-items) ≡ is_modest l.most l.dearest l.effect

abbrev pub invariant-loop-branch : goal.invariant-loop-branch
invariant-loop-branch l = list_all (λ (x : Branch). is_modest l.most l.dearest x.effect) (drop l.branch-index l.branch-items) ≡ is_modest l.most l.dearest l.effect
