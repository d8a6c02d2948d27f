-- Each potential is below the prices; where none fell in the last pass, every action allows them.
use Rattle.std.proofs.Common.{◌≡◌, ◌+◌, cond, false}
use Rattle.std.specs.Prelude.{All}
use Rattle.std.specs.List.{sum}
use Rattle.relaxed_seed.specs.Prices.{prices_at}
use Rattle.relaxed_seed.specs.Potential.{AllowsAction}
use Rattle.relaxed_seed.specs.Lowering.{IsAbovePotentials}
use Rattle.relaxed_seed.proofs.relaxed.put_greatest_potential.Given as goal

abbrev pub invariant-loop-falls : goal.invariant-loop-falls
invariant-loop-falls l = IsAbovePotentials l.problem l.state l.prices
    × (l.falls ≡ false → All (AllowsAction l.problem.penalty (prices_at l.prices l.problem.penalty)) l.problem.actions)

abbrev pub decreases-loop-falls : goal.decreases-loop-falls
decreases-loop-falls l = sum l.prices + cond l.falls 1 0
