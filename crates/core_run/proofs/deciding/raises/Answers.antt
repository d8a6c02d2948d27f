-- The worker and the state are found.
use Rattle.std.proofs.Common.{List, ap, ◌∙◌}
use Rattle.bound_core.specs.declared.worker.Seen.{Seen}
use Rattle.bound_core.specs.Shown.{seen_lower_in}
use Rattle.core_run.specs.Decided.{can_raise, raises_at, raises}
use Rattle.core_run.proofs.Steps.{published_length}
use Rattle.core_run.proofs.deciding.raises.Goals as goal

pub returns-clause-value : goal.returns-clause-value
returns-clause-value c =
    c.can_raise.ensures.value
    ∙ ap (λ (l : List Seen). can_raise c.args.problem.now (seen_lower_in c.args.board.now.ids.items l) c.in-Some-published_state.state.now c.args.value) c.as_slice.ensures
    ∙ ap (raises_at c.args.problem.now (seen_lower_in c.args.board.now.ids.items c.in-Some.found.now.seen) c.args.value) c.in-Some-published_state.ensures
    ∙ ap (raises c.args.problem.now c.args.board.now.ids.items c.args.id c.args.value) c.in-Some.ensures

pub returns-clause-fits : goal.returns-clause-fits
returns-clause-fits c =
    c.can_raise.ensures.fits ∙ published_length c.args.problem.now c.args.board.now c.args.id c.in-Some-published_state.state.now c.requires.formed c.in-Some-published_state.ensures
