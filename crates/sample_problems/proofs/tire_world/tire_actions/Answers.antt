use Rattle.std.proofs.Common.{rules}
use Rattle.sample_problems.specs.Tire.{actions}
use Rattle.sample_problems.proofs.tire_world.tire_actions.Goals as goal

pub returns : goal.returns
unfolding actions
returns c = search rules
