use Rattle.std.proofs.Common.{sym, ap, subst, ◌∙◌}
use Rattle.std.specs.Prelude.{IfErr}
use Rattle.ground_meaning.specs.choices.Joint.{with_factor}
use Rattle.outcome_dist.specs.lists.Piles.{begun}
use Rattle.outcome_dist.specs.lists.Refusals.{IsTooMany}
use Rattle.outcome_dist.proofs.lemmas.lists.MergedMaps.{factor-idle}
use Rattle.outcome_dist.proofs.lists.product.times.Goals as goal

pub returns-in-None-clause-refused : goal.returns-in-None-clause-refused
returns-in-None-clause-refused c =
    subst (λ l. IfErr c.merged_settled.result (λ e. IsTooMany e l))
    (sym (factor-idle c.args.factor.items) ∙ ap (λ d. with_factor (begun d) c.args.factor.items) (sym c.in-None.is))
    c.merged_settled.ensures.refused
