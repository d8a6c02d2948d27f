-- The parts are those of the coin, which is a ground problem.
use Rattle.std.proofs.Common.{◌≡◌, subst, rules}
use Rattle.ground_model.specs.declared.condition.GroundCondition.TheVariants.{Atom}
use Rattle.ground_model.specs.Coin.{coin}
use Rattle.ground_model.specs.Ground.{Ground, of_parts}
use Rattle.ground_model.specs.Invariant.{IsGroundProblem}
use Rattle.ground_model.proofs.Coin.{coin_is_ground_problem}
use Rattle.sample_problems.proofs.coins.coin.Goals as goal

pub new-requires : goal.new-requires
new-requires c =
    let parts : Ground = of_parts c.from_vec-2.result 10000000 c.from_vec-3.result 1 (Atom 0) c.from_vec-4.result in
    let same : coin ≡ parts = search rules in
    subst IsGroundProblem same coin_is_ground_problem
