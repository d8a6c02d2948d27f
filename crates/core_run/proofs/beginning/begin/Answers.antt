-- One row and one state for each start, and one worker.
use Rattle.std.proofs.Common.{true, None, List, [], ◌∷◌, ◌++◌, length, refl, ap, ◌∙◌}
use Rattle.bound_core.specs.declared.worker.Worker.{Worker}
use Rattle.core_run.specs.Began.{unseen}
use Rattle.core_run.proofs.Starts.{begins}
use Rattle.core_run.proofs.beginning.begin.Goals as goal

pub returns-clause-board : goal.returns-clause-board
returns-clause-board c =
    let w : Worker = record { live = true; seen = c.in_ok-seen.seen; spare = None } in
    begins c.args.problem.now c.starts.ensures.valid _ w c.in_ok-start_rows.ensures c.in_ok-start_states.ensures
    (c.in_ok-push.ensures.items ∙ ap (λ (l : List Worker). l ++ w ∷ []) c.new-workers.ensures.items) refl
    (c.in_ok-seen.ensures ∙ ap (λ l. unseen (length l)) c.starts.ensures.value) refl
