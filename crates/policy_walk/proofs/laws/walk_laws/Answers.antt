-- The laws of walks, by their lemmas.
use Rattle.policy_walk.proofs.Firsts.{first_above_is_first}
use Rattle.policy_walk.proofs.Runs.{walks_are_runs}
use Rattle.policy_walk.proofs.laws.walk_laws.Goals as goal

pub returns-clause-drawn : goal.returns-clause-drawn
returns-clause-drawn g c = first_above_is_first

pub returns-clause-runs : goal.returns-clause-runs
returns-clause-runs g c = walks_are_runs
