use Rattle.std.proofs.Common.{◌≡◌, ◌+◌, drop}
use Rattle.plain_list.specs.weighted.Mean.{total}
use Rattle.ppddl_model.specs.declared.tree.Branch.{Branch}
use Rattle.ground_meaning.specs.choices.Limits.{effect_size}
use Rattle.ground_terms.specs.sizes.Counted.{counted}
use Rattle.ground_terms.proofs.sizes.effects.+effect_size.Given as goal

abbrev pub invariant-loop-part : goal.invariant-loop-part
invariant-loop-part l = record {
  small : counted l.size ≡ l.size;
  rest : counted (l.size + total (effect_size l.table) (drop l.part-index l.part-items)) ≡ counted (effect_size l.table l.effect);
}

abbrev pub invariant-loop-branch : goal.invariant-loop-branch
invariant-loop-branch l = record {
  small : counted l.size ≡ l.size;
  rest :
      counted (l.size + total (λ (x : Branch). effect_size l.table x.effect) (drop l.branch-index l.branch-items))
      ≡ counted (effect_size l.table l.effect);
}
