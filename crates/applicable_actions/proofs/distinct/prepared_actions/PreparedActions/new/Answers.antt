use Rattle.applicable_actions.proofs.lemmas.distinct.Placing.{few_choices, more_placed}
use Rattle.applicable_actions.proofs.distinct.prepared_actions.PreparedActions.new.Goals as goal

pub loop-code-preserved : goal.loop-code-preserved
loop-code-preserved c =
    let i = c.loop-code.code in let below = c.loop-code-test.true in
    let few = few_choices c.problem.result.now c.actions-actions.ensures.valid c.actions-actions.result.now c.actions-actions.ensures.value i below
    c.index-actions-code.result c.index-actions-code.is in
    more_placed c.actions-actions.result.now c.loop-code.spans.items c.push.new.self.items c.loop-code.choices.items c.place_choices.new.choices.items i
    c.index-actions-code.result c.in_ok-span.span c.loop-code.invariant below c.index-actions-code.is few.0 c.in_ok-span.ensures c.in_ok-push.ensures.items
