use Rattle.std.proofs.Common.{◌≡◌, [], true, false, sym, ap, subst, ◌∙◌}
use Rattle.ppddl_model.specs.Objects.{bindings}
use Rattle.ppddl_model.specs.Steps.{world}
use Rattle.task_instances.specs.kept_rows.Stages.{conditions_of, may_all_hold, IsLeft}
use Rattle.task_instances.proofs.lemmas.kept_rows.BindSteps.{nothing_added}
use Rattle.task_instances.proofs.lemmas.kept_rows.Staging.{first_left, first_none}
use Rattle.task_instances.proofs.kept_rows.binding.bind_stages.Goals as goal

pub returns-then-not-may : goal.returns-then-not-may
returns-then-not-may c =
    let task = c.args.facts.now in
    let action = c.args.action.now in
    let first = conditions_of c.args.stages.now.first.items in
    let may : may_all_hold task [] first ≡ false
    = sym (c.in_ok-may.ensures ∙ ap (λ l. may_all_hold task [] (conditions_of l)) c.as_slice.ensures.value) ∙ c.if-not-may.true in
    nothing_added task action (bindings (world task) action.params []) c.args.rows.now
    (first_none task action first c.args.stages.now.stages.items c.requires.stages may)

pub bind_terms-bound-requires-clause-left : goal.bind_terms-bound-requires-clause-left
bind_terms-bound-requires-clause-left c =
    let task = c.args.facts.now in
    let action = c.args.action.now in
    let first = conditions_of c.args.stages.now.first.items in
    let may : may_all_hold task [] first ≡ true
    = sym (c.in_ok-may.ensures ∙ ap (λ l. may_all_hold task [] (conditions_of l)) c.as_slice.ensures.value) ∙ c.if-not-may.false in
    subst (λ l. IsLeft task action.condition l []) (sym c.as_slice-2.ensures.value)
    (first_left task action first c.args.stages.now.stages.items c.requires.stages may)
