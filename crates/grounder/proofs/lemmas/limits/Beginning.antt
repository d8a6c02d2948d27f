-- All limits begin with the early ones.
use Rattle.std.proofs.Common.{◌≡◌, ℕ, length, sym, ◌∙◌}
use Rattle.std.specs.Prelude.{Result}
use Rattle.plain_list.specs.Results.{◌>>=◌}
use Rattle.plain_list.proofs.Results.{bind_assoc, bind_cong}
use Rattle.ppddl_model.specs.declared.tree.Task.{Task}
use Rattle.ppddl_model.specs.Steps.{Charges, world, instances}
use Rattle.ground_meaning.specs.declared.refusals.limits.LimitCode.{LimitCode}
use Rattle.ground_meaning.specs.declared.refusals.limits.LimitCode.TheVariants.{Instances, Objects}
use Rattle.ground_meaning.specs.refusals.Limits.{within, actions_within, limits}
use Rattle.grounder.specs.limits.Early.{early_limits}
use Rattle.grounder.specs.limits.Laws.{later_limits}

pub limits_begin : (task : Task) (charges : Charges) → limits task charges ≡ (early_limits task >>= later_limits task charges)
limits_begin task charges =
    let objects : Result (Unit {0}) LimitCode = within (length (world task).objects) Objects in
    let tried : Result (Unit {0}) LimitCode = within (length (instances task)) Instances in
    let sizes : Result ℕ LimitCode = actions_within task 0 task.domain.actions in
    sym (bind_assoc objects (λ _. tried >>= λ _. sizes) (later_limits task charges)
    ∙ bind_cong objects (λ _. (tried >>= λ _. sizes) >>= later_limits task charges) (λ _. tried >>= λ _. sizes >>= later_limits task charges)
    (λ _. bind_assoc tried (λ _. sizes) (later_limits task charges)))
