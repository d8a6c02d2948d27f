use Rattle.std.proofs.Common.{◌≡◌, ◌*◌, drop, map}
use Rattle.exact_fraction.specs.Divisors.{lcm_of, common_multiple}
use Rattle.ppddl_model.specs.declared.tree.Branch.{Branch}
use Rattle.ground_meaning.specs.choices.Joint.{den_of}
use Rattle.ground_terms.specs.sizes.Counted.{counted}
use Rattle.ground_terms.proofs.lemmas.sizes.DenSteps.{product_by}
use Rattle.ground_terms.proofs.sizes.denominators.+denominator.Given as goal

abbrev pub invariant-loop-part : goal.invariant-loop-part
invariant-loop-part l = record {
  small : counted l.product ≡ l.product;
  rest : counted (l.product * product_by (den_of l.table) (drop l.part-index l.part-items)) ≡ counted (den_of l.table l.effect);
}

abbrev pub invariant-loop-branch : goal.invariant-loop-branch
invariant-loop-branch l = record {
  small : counted l.own ≡ l.own;
  each_small : counted l.each ≡ l.each;
  rest :
      counted (lcm_of l.own (common_multiple (map (λ (x : Branch). x.chance.den) (drop l.branch-index l.branch-items))))
      ≡ counted (common_multiple (map (λ (x : Branch). x.chance.den) l.branch-items));
  each_rest :
      counted (lcm_of l.each (common_multiple (map (λ (x : Branch). den_of l.table x.effect) (drop l.branch-index l.branch-items))))
      ≡ counted (common_multiple (map (λ (x : Branch). den_of l.table x.effect) l.branch-items));
}
