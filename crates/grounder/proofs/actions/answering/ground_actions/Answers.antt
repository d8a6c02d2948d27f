use Rattle.std.proofs.Common.{◌≡◌, Err, Ok, List, sym, ap, subst, ◌∙◌}
use Rattle.std.specs.Prelude.{All, flat_map}
use Rattle.std.proofs.lemmas.Result.{err_from_is_err_and}
use Rattle.ppddl_model.specs.declared.tree.Action.{Action}
use Rattle.ppddl_model.specs.declared.tree.Task.{Task}
use Rattle.ppddl_model.specs.Changing.{kept_instances}
use Rattle.ground_meaning.specs.refusals.Limits.{instances_within}
use Rattle.grounder.specs.declared.actions.GroundActions.{GroundActions}
use Rattle.grounder.specs.actions.Answers.{Answers}
use Rattle.grounder.specs.actions.Forming.{IsFine}
use Rattle.grounder.specs.actions.Growing.{no_actions, kept_instances_of, with_instances}
use Rattle.grounder.proofs.lemmas.actions.Beginning.{tested_small, all_fine}
use Rattle.grounder.proofs.lemmas.actions.Charged.{answered, refused}
use Rattle.grounder.proofs.lemmas.actions.Stepping.{all_kept}
use Rattle.grounder.proofs.lemmas.actions.Tests.{refused_same}
use Rattle.grounder.proofs.actions.answering.ground_actions.Goals as goal

pub new-none-requires : goal.new-none-requires
new-none-requires c = tested_small c.args.facts.now c.args.tested c.requires.tested

pub add_actions-requires-clause-fine : goal.add_actions-requires-clause-fine
add_actions-requires-clause-fine c =
    let task : Task = c.args.facts.now in
    let actions : List Action = c.as_slice.result.now in
    let are : actions ≡ task.domain.actions = c.as_slice.ensures ∙ ap (λ (t : Task). t.domain.actions) c.task-task.ensures in
    subst (All (IsFine task)) (sym are) (all_fine task c.args.tested c.requires.tested c.requires.well_formed)

pub returns-in_err-grown : goal.returns-in_err-grown
returns-in_err-grown c =
    let task : Task = c.args.facts.now in
    let actions : List Action = c.as_slice.result.now in
    let are : actions ≡ task.domain.actions = c.as_slice.ensures ∙ ap (λ (t : Task). t.domain.actions) c.task-task.ensures in
    let p = err_from_is_err_and c.from_residual.result c.from_residual.ensures.1 in
    record {
      exact = λ charges same.
          subst (λ r. Answers task charges r (instances_within task charges 0 c.args.tested (kept_instances task))) (sym (p.1 ∙ ap Err p.2))
          (refused task charges c.args.base c.args.tested same c.in_err-grown.field-0.0
          (refused_same {X = GroundActions} c.in_err-grown.field-0.0 (with_instances task c.args.base c.new-none.result (flat_map (kept_instances_of task) actions))
          (with_instances task c.args.base (no_actions c.args.tested) (kept_instances task))
          (all_kept task c.args.base c.args.tested c.new-none.result actions c.new-none.ensures are) c.in_err-grown.ensures));
    }

pub returns : goal.returns
returns c =
    let task : Task = c.args.facts.now in
    let actions : List Action = c.as_slice.result.now in
    let are : actions ≡ task.domain.actions = c.as_slice.ensures ∙ ap (λ (t : Task). t.domain.actions) c.task-task.ensures in
    record {
      exact = λ charges same.
          answered task charges c.args.base c.args.tested same c.into_actions.result
          (sym (all_kept task c.args.base c.args.tested c.new-none.result actions c.new-none.ensures are) ∙ c.in_ok-grown.ensures ∙ ap Ok (sym c.into_actions.ensures));
    }
