use Rattle.bellman_backup.proofs.PlacedWeights.{none_placed, few_choices, more_placed}
use Rattle.bellman_backup.proofs.action_weights.ActionWeights.new.Goals as goal

pub loop-code-init : goal.loop-code-init
loop-code-init c = none_placed c.actions-action-items.result.now c.new-spans.result.items c.new-shares.result.items c.new-spans.ensures.items c.new-shares.ensures.items

pub loop-code-preserved : goal.loop-code-preserved
loop-code-preserved c =
    let i = c.loop-code.code in let below = c.loop-code-test.true in
    let few = few_choices c.problem.result.now c.actions-action-items.ensures.valid c.actions-action-items.result.now c.actions-action-items.ensures.value i below
    c.action-item.result c.action-item.is in
    more_placed c.actions-action-items.result.now c.loop-code.spans.items c.push.new.self.items c.loop-code.shares.items c.find_shares.new.shares.items i
    c.action-item.result c.in_ok-span.span c.loop-code.invariant below c.action-item.is few.0 c.in_ok-span.ensures c.in_ok-push.ensures.items
