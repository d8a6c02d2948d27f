use Rattle.std.proofs.Common.{rules, ◌++◌, [], ◌∷◌, sym, ap, subst, ◌∙◌}
use Rattle.ground_meaning.specs.choices.Joint.{with_factor}
use Rattle.outcome_dist.specs.lists.Piles.{begun, made, settled}
use Rattle.outcome_dist.specs.lists.Refusals.{IsTooMany}
use Rattle.outcome_dist.proofs.lemmas.lists.MergedMaps.{factor-settled, not_too_long}
use Rattle.outcome_dist.proofs.lists.product.Product.into_done.Goals as goal

pub returns-in_ok-times-in-Some-clause-list : goal.returns-in_ok-times-in-Some-clause-list
returns-in_ok-times-in-Some-clause-list c =
    c.in_ok-times-in-Some.ensures.list
    ∙ ap (with_factor (begun c.self.inside.done)) (c.in_ok-push-in-Some.ensures.items ∙ (λ i. c.new-one.ensures.items i ++ c.in_ok-settled-in-Some.ensures i ∷ []))
    ∙ factor-settled (begun c.self.inside.done) c.in-Some.pile
    ∙ ap (made (begun c.self.inside.done)) (sym c.in-Some.is) ∙ c.self.view_is

pub returns-in_err-times-in-Some-clause-refused : goal.returns-in_err-times-in-Some-clause-refused
returns-in_err-times-in-Some-clause-refused c =
    let one = c.in_ok-push-in-Some.ensures.items ∙ (λ i. c.new-one.ensures.items i ++ c.in_ok-settled-in-Some.ensures i ∷ []) in
    let k = not_too_long c.in_err-times-in-Some.field-0.0 (begun c.self.inside.done) (settled c.in-Some.pile) c.self.invariant
    (subst (λ l. IsTooMany c.in_err-times-in-Some.field-0.0 (with_factor (begun c.self.inside.done) l)) one c.in_err-times-in-Some.ensures.refused) in
    search (rules, k)
