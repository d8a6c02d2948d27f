use Rattle.std.proofs.Common.{◌≡◌, List, map, subst}
use Rattle.std.specs.Prelude.{Err}
use Rattle.std.proofs.lemmas.Result.{err_from_is_err_and}
use Rattle.ppddl_model.specs.declared.tree.Task.{Task}
use Rattle.ppddl_model.specs.Changing.{kept_instances}
use Rattle.ground_model.specs.declared.action.GroundAction.{GroundAction}
use Rattle.ground_meaning.specs.refusals.Problem.{ground_action}
use Rattle.grounder.specs.limits.Laws.{later_limits}
use Rattle.grounder.specs.Limited.{Limited, sized, ended}
use Rattle.grounder.specs.Parts.{IsEndOf, ArePartsOf}
use Rattle.grounder.proofs.Limiting.{refused_on, refused_as, passed_on, handed_on}
use Rattle.grounder.proofs.Ending.{later_is}
use Rattle.grounder.proofs.parts.named_parts.Goals as goal

pub returns-in_err-actions : goal.returns-in_err-actions
returns-in_err-actions c =
    let task : Task = c.args.facts.now in
    let p = err_from_is_err_and c.from_residual.result c.from_residual.ensures.1 in
    record {
      exact = λ charges same.
          handed_on (λ r. Limited (ArePartsOf task charges) r (later_limits task charges c.args.tested)) c.from_residual.result
          c.in_err-actions.field-0.0 p.0 p.1 p.2
          (subst (Limited (ArePartsOf task charges) (Err c.in_err-actions.field-0.0)) (later_is task charges c.args.tested)
          (refused_on (λ (l : List GroundAction). l ≡ map (ground_action task charges) (kept_instances task)) (ArePartsOf task charges)
          c.in_err-actions.field-0.0 (sized task charges c.args.tested) (λ _. ended task) (c.in_err-actions.ensures.exact charges same)));
    }

pub returns-in-Err : goal.returns-in-Err
returns-in-Err c =
    let task : Task = c.args.facts.now in
    record {
      exact = λ charges same.
          subst (Limited (ArePartsOf task charges) (Err c.in-Err.refusal)) (later_is task charges c.args.tested)
          (passed_on (ArePartsOf task charges) (Err c.in-Err.refusal) (sized task charges c.args.tested) (λ _. ended task)
          (c.in_ok-actions.ensures.exact charges same).0
          (refused_as (IsEndOf task) (ArePartsOf task charges) c.in-Err.refusal (ended task) c.in-Err.ensures));
    }
