-- What the index keeps is enough.
use Rattle.std.proofs.Common.{subst, sym}
use Rattle.ground_model.specs.Ground.{Ground}
use Rattle.applicable_actions.specs.LeftOut.{kept_choices}
use Rattle.applicable_actions.specs.distinct.Enough.{AreEnough}
use Rattle.applicable_actions.proofs.lemmas.distinct.Kept.{kept_are_enough}
use Rattle.applicable_actions.proofs.distinct.distinct_actions.DistinctActions.fill.Goals as goal

pub returns-clause-codes : goal.returns-clause-codes
returns-clause-codes c =
    let s = c.args.state.now in
    let index = c.self.inside.index in
    subst (AreEnough c.args.self.now s) (sym c.fill.ensures.codes)
    (subst (λ (g : Ground). AreEnough g s (kept_choices index s)) c.self.view_is
    (kept_are_enough index.problem s index.left_out c.self.invariant.repeats))
