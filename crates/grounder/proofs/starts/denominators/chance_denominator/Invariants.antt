use Rattle.std.proofs.Common.{◌≡◌, drop}
use Rattle.exact_fraction.specs.Divisors.{lcm_of, common_multiple}
use Rattle.ground_terms.specs.sizes.Counted.{counted}
use Rattle.grounder.specs.starts.Growing.{dens_of}
use Rattle.grounder.proofs.starts.denominators.chance_denominator.Given as goal

abbrev pub invariant-loop-branch : goal.invariant-loop-branch
invariant-loop-branch l = record {
  small : counted l.den ≡ l.den;
  rest : counted (lcm_of l.den (common_multiple (dens_of (drop l.branch-index l.branches)))) ≡ counted (common_multiple (dens_of l.branches));
}
