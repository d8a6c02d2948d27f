use Rattle.std.proofs.Common.{ℕ, sym, ap, ◌∙◌, arith}
use Rattle.std.specs.Prelude.{min}
use Rattle.brtdp_trial.specs.Listed.{expected}
use Rattle.brtdp_trial.specs.declared.listed.ListedAction.{ListedAction}
use Rattle.brtdp_trial.proofs.Listing.{least_more}
use Rattle.brtdp_trial.proofs.backing.best.Goals as goal

pub loop-action-preserved : goal.loop-action-preserved
loop-action-preserved c =
    let f : ListedAction → ℕ = expected c.args.cap c.args.side c.args.numbers.now in
    let more = least_more f c.args.cap c.args.actions.now c.loop-action.action-index c.action-item.result
    c.loop-action-test.true c.action-item.is in (
      omega (arith, c.min-least.ensures, c.loop-action.invariant.0),
      c.min-least.ensures ∙ ap (λ x. min x c.loop-action.least) c.expected.ensures
          ∙ ap (min (f c.action-item.result)) c.loop-action.invariant.1 ∙ sym more,
    )
