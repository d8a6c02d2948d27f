use Rattle.std.proofs.Common.{◌≡◌, ◌+◌, drop}
use Rattle.plain_list.specs.weighted.Mean.{total}
use Rattle.ppddl_model.specs.declared.tree.Branch.{Branch}
use Rattle.ground_terms.specs.sizes.Counted.{counted}
use Rattle.grounder.specs.outset.Draws.{branches}
use Rattle.grounder.proofs.outset.draws.+count_branches.Given as goal

abbrev pub decreases-count_branches : goal.decreases-count_branches
decreases-count_branches l = goal.size-count_branches l

abbrev pub invariant-loop-part : goal.invariant-loop-part
invariant-loop-part l = record {
  small : counted l.count ≡ l.count;
  rest : counted (l.count + total (branches l.table) (drop l.part-index l.part-items)) ≡ counted (branches l.table l.effect);
}

abbrev pub invariant-loop-branch : goal.invariant-loop-branch
invariant-loop-branch l = record {
  small : counted l.count ≡ l.count;
  rest :
      counted (l.count + total (λ (x : Branch). 1 + branches l.table x.effect) (drop l.branch-index l.branch-items))
      ≡ counted (branches l.table l.effect);
}
