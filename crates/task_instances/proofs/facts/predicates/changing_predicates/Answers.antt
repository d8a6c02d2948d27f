use Rattle.std.proofs.Common.{◌≡◌, List, [], flat_map, sym, ap, ◌∙◌}
use Rattle.ppddl_model.specs.declared.tree.Action.{Action}
use Rattle.ppddl_model.specs.State.{Name}
use Rattle.ppddl_model.specs.Changing.{predicates_of, chance_predicates}
use Rattle.task_instances.specs.fact_rows.Adding.{with_names}
use Rattle.task_instances.proofs.lemmas.fact_rows.Adding.{names-append}
use Rattle.task_instances.proofs.facts.predicates.changing_predicates.Goals as goal

pub returns : goal.returns
returns c =
    let named : List Action → List Name = flat_map (λ (a : Action). predicates_of a.effect) in
    let begun : c.add_of_actions.new.names ≡ with_names [] (named c.args.task.now.domain.actions)
    = c.in_ok-add_of_actions.ensures
    ∙ ap (λ n. with_names n (named c.as_slice.result.now)) c.new-names.ensures
    ∙ ap (λ l. with_names [] (named l)) c.as_slice.ensures in
    c.in_ok-add_of_items.ensures
    ∙ ap (λ l. with_names c.add_of_actions.new.names (flat_map chance_predicates l)) c.as_slice-2.ensures
    ∙ ap (λ n. with_names n (flat_map chance_predicates c.args.task.now.problem.init)) begun
    ∙ sym (names-append [] (named c.args.task.now.domain.actions) (flat_map chance_predicates c.args.task.now.problem.init))
