use Rattle.std.proofs.Common.{subst}
use Rattle.ground_model.specs.Invariant.{IsGroundProblem}
use Rattle.bellman_backup.proofs.StartWeights.{positive_weights, whole_weights}
use Rattle.bellman_backup.proofs.racing.RacingBounds.start_count.Goals as goal

pub returns-clause-positive : goal.returns-clause-positive
returns-clause-positive c = positive_weights c.args.self.now.words.now.problem (subst IsGroundProblem c.problem.ensures c.starts.ensures.valid)

pub returns-clause-whole : goal.returns-clause-whole
returns-clause-whole c = whole_weights c.args.self.now.words.now.problem (subst IsGroundProblem c.problem.ensures c.starts.ensures.valid)
