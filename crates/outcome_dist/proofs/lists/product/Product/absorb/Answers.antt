use Rattle.std.proofs.Common.{arith, [], ◌∷◌, sym, ap, ◌∙◌}
use Rattle.ground_model.specs.declared.action.Choice.{Choice}
use Rattle.ground_meaning.specs.choices.Joint.{with_factor}
use Rattle.outcome_dist.specs.lists.Piles.{begun, made}
use Rattle.outcome_dist.proofs.lemmas.lists.MergedMaps.{factor-piled, length-factor}
use Rattle.outcome_dist.proofs.lists.product.Product.absorb.Goals as goal

pub returns-in_ok-after-in-Some-clause-put : goal.returns-in_ok-after-in-Some-clause-put
returns-in_ok-after-in-Some-clause-put c =
    ap (λ (a : Choice). with_factor (begun c.self.inside.done) (a ∷ [])) c.in_ok-after-in-Some.ensures
    ∙ factor-piled (begun c.self.inside.done) c.in-Some.before c.args.more c.requires
    ∙ ap (λ l. with_factor l (c.args.more ∷ [])) (ap (made (begun c.self.inside.done)) (sym c.in-Some.is) ∙ c.self.view_is)

pub returns-in_ok-after-in-Some-clause-few : goal.returns-in_ok-after-in-Some-clause-few
returns-in_ok-after-in-Some-clause-few c =
    omega (arith, length-factor (begun c.self.inside.done) c.in_ok-after-in-Some.after, c.self.invariant)

pub returns-in-None-clause-few : goal.returns-in-None-clause-few
returns-in-None-clause-few c = omega (arith, length-factor (begun c.self.inside.done) c.args.more, c.self.invariant)
