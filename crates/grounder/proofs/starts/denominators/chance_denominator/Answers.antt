use Rattle.std.proofs.Common.{refl, ap, arith}
use Rattle.exact_fraction.specs.Divisors.{common_multiple}
use Rattle.ppddl_model.specs.declared.tree.InitBranch.{InitBranch}
use Rattle.ground_terms.specs.sizes.Counted.{counted}
use Rattle.ground_terms.proofs.lemmas.sizes.DenSteps.{lcm_more, lcm-one}
use Rattle.grounder.specs.starts.Growing.{dens_of}
use Rattle.grounder.proofs.starts.denominators.chance_denominator.Goals as goal

pub loop-branch-init : goal.loop-branch-init
loop-branch-init c = record { small = refl; rest = ap counted (lcm-one (common_multiple (dens_of c.args.branches.now))) }

pub loop-branch-preserved : goal.loop-branch-preserved
loop-branch-preserved c = record {
  small = omega (arith, c.multiple-den.ensures);
  rest =
      lcm_more (λ (x : InitBranch). x.chance.den) c.args.branches.now c.loop-branch.branch-index c.branch-item.result c.loop-branch.den
      c.multiple-den.result (counted (common_multiple (dens_of c.args.branches.now))) c.loop-branch-test.true c.branch-item.is
      c.multiple-den.ensures c.loop-branch.invariant.rest;
}
