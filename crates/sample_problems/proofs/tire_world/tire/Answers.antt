-- The parts are those of the tire problem, which is a ground problem.
use Rattle.std.proofs.Common.{◌≡◌, subst, rules}
use Rattle.ground_model.specs.declared.condition.GroundCondition.TheVariants.{Atom}
use Rattle.ground_model.specs.Ground.{Ground, of_parts}
use Rattle.ground_model.specs.Invariant.{IsGroundProblem}
use Rattle.sample_problems.specs.Tire.{tire}
use Rattle.sample_problems.proofs.lemmas.Tire.{tire_is_ground_problem}
use Rattle.sample_problems.proofs.tire_world.tire.Goals as goal

pub new-requires : goal.new-requires
new-requires c =
    let parts : Ground = of_parts c.in_ok-atoms.atoms 100000000 c.from_vec-starts.result 1 (Atom 6) c.in_ok-actions.actions in
    let same : tire ≡ parts = search rules in
    subst IsGroundProblem same tire_is_ground_problem
