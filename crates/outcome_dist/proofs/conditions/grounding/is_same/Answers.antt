use Rattle.std.proofs.Common.{ap, ◌∙◌}
use Rattle.std.specs.Cmp.Lexicographic.{texts_ties}
use Rattle.ppddl_model.specs.State.{same_name}
use Rattle.ppddl_model.specs.Objects.{named}
use Rattle.ground_terms.specs.terms.Scopes.{binding_of}
use Rattle.outcome_dist.proofs.conditions.grounding.is_same.Goals as goal

pub returns : goal.returns
returns c =
    c.eq.ensures ∙ texts_ties c.named.result.now c.named-2.result.now
    ∙ ap (λ x. same_name x c.named-2.result.now) c.named.ensures
    ∙ ap (same_name (named (binding_of c.args.scope.now) c.args.first.now)) c.named-2.ensures
