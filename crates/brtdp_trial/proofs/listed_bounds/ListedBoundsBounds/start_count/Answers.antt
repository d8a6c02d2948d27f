use Rattle.brtdp_trial.proofs.Answered.{start_weights}
use Rattle.brtdp_trial.proofs.listed_bounds.ListedBoundsBounds.start_count.Goals as goal

pub returns-clause-told : goal.returns-clause-told
returns-clause-told c = λ told.
    start_weights c.args.self.now.states c.args.self.now.numbers c.args.self.now.starts
