use Rattle.std.proofs.Common.{rules}
use Rattle.sample_problems.specs.Tire.{atoms}
use Rattle.sample_problems.proofs.tire_world.tire_atoms.Goals as goal

pub returns : goal.returns
unfolding atoms
returns c = search rules
