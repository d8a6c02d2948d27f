-- A row and a state without words are the last ones now.
use Rattle.std.proofs.Common.{refl, ap, ◌∙◌, Some}
use Rattle.core_run.specs.Stepped.{with_spare}
use Rattle.core_run.proofs.Steps.{claim_is}
use Rattle.core_run.proofs.claiming.claim.Goals as goal

pub returns : goal.returns
returns c = claim_is c.args.problem.now c.args.board.now _ c.args.worker c.index_mut.result.now c.set_spare.new.worker _ _ c.requires
    c.index_mut.ensures.value
    (c.set_spare.ensures ∙ ap (λ n. with_spare c.index_mut.result.now (Some n)) (c.len-id.ensures ∙ c.args.board.now.ids.ok.0))
    c.in_ok-empty_row.ensures c.in_ok-empty_state.ensures c.in_ok-push.ensures.items c.in_ok-push-2.ensures.items refl
