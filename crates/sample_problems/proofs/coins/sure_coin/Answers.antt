-- The parts are those of the coin, which is a ground problem.
use Rattle.std.proofs.Common.{◌≡◌, subst, rules}
use Rattle.ground_model.specs.declared.condition.GroundCondition.TheVariants.{Atom}
use Rattle.ground_model.specs.Ground.{Ground, of_parts}
use Rattle.ground_model.specs.Invariant.{IsGroundProblem}
use Rattle.sample_problems.specs.SureCoin.{sure_coin}
use Rattle.sample_problems.proofs.lemmas.SureCoin.{sure_coin_is_ground_problem}
use Rattle.sample_problems.proofs.coins.sure_coin.Goals as goal

pub new-requires : goal.new-requires
new-requires c =
    let parts : Ground = of_parts c.from_vec-2.result 10000000 c.from_vec-3.result 10 (Atom 0) c.from_vec-4.result in
    let same : sure_coin ≡ parts = search rules in
    subst IsGroundProblem same sure_coin_is_ground_problem
