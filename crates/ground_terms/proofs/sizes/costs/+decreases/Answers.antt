use Rattle.std.proofs.Common.{sym, ap, ◌∙◌}
use Rattle.std.specs.List.{list_any}
use Rattle.ppddl_model.specs.declared.tree.Branch.{Branch}
use Rattle.ppddl_model.specs.Costs.{decreases}
use Rattle.ground_terms.proofs.lemmas.sizes.CostSteps.{decreases-Both, decreases-Chance, decreases-Forall, decreases-When}
use Rattle.ground_terms.proofs.sizes.costs.+decreases.Goals as goal

pub loop-part-init : goal.loop-part-init
loop-part-init t c = ap (list_any decreases) c.as_slice-part-items.ensures ∙ decreases-Both c.in-Both.parts ∙ ap decreases (sym c.in-Both.is)

pub loop-branch-init : goal.loop-branch-init
loop-branch-init t c =
    ap (list_any (λ (x : Branch). decreases x.effect)) c.as_slice-branch-items.ensures
    ∙ decreases-Chance c.in-Chance.branches ∙ ap decreases (sym c.in-Chance.is)

pub returns-in-Forall : goal.returns-in-Forall
returns-in-Forall t c =
    c.decreases-in-Forall.ensures ∙ ap decreases c.get.ensures ∙ decreases-Forall c.in-Forall.field-0 c.in-Forall.inner ∙ ap decreases (sym c.in-Forall.is)

pub returns-in-When : goal.returns-in-When
returns-in-When t c =
    c.decreases-in-When.ensures ∙ ap decreases c.get-in-When.ensures ∙ decreases-When c.in-When.field-0 c.in-When.inner ∙ ap decreases (sym c.in-When.is)
