-- The choices that are prepared are those of the problem's actions.
use Rattle.std.proofs.Common.{◌<◌, length, ap, sym, ◌∙◌, subst}
use Rattle.ground_model.specs.Ground.{Ground}
use Rattle.ground_model.specs.Invariant.{IsGroundProblem}
use Rattle.ground_step.specs.Steps.{choices_of}
use Rattle.applicable_actions.proofs.lemmas.distinct.Placing.{choices_here}
use Rattle.applicable_actions.proofs.distinct.distinct_actions.DistinctActions.choices.Goals as goal

pub returns-clause-value : goal.returns-clause-value
returns-clause-value c =
    let g = c.self.inside.index.problem in
    c.choices.ensures (choices_of g c.args.code)
    (choices_here g c.self.inside.prepared c.self.invariant.prepared_are c.args.code
    (subst (λ (p : Ground). c.args.code < length p.actions) (sym c.self.view_is) c.requires))
    ∙ ap (λ p. choices_of p c.args.code) c.self.view_is

pub returns-clause-valid : goal.returns-clause-valid
returns-clause-valid c = subst IsGroundProblem c.self.view_is c.self.invariant.valid
