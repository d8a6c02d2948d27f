-- The drawn choice is one of the action's.
use Rattle.std.proofs.Common.{length, ap, sym, subst, ◌∙◌, ◌≤◌}
use Rattle.ground_model.specs.Packed.{has_bit}
use Rattle.ground_model.specs.Choices.{after}
use Rattle.ground_model.proofs.Packed.{length-packed}
use Rattle.ground_step.proofs.Outcomes.{cost_within}
use Rattle.policy_walk.specs.Walks.{choice_drawn}
use Rattle.policy_walk.proofs.Steps.{choice_given}
use Rattle.policy_walk.proofs.walking.make_step.Goals as goal

pub apply-cost-requires-clause-cost : goal.apply-cost-requires-clause-cost
apply-cost-requires-clause-cost c =
    let given = choice_given c.args.problem.now c.actions.ensures.valid c.actions.result.now c.args.action c.index-actions-action.result
    c.as_slice.result.now c.draw.result c.drawn-choice.result.now c.actions.ensures.value c.requires.action c.index-actions-action.is
    c.as_slice.ensures c.drawn-choice.ensures in
    cost_within (length c.args.problem.now.atoms) c.drawn-choice.result.now given.1 (has_bit c.args.buffer.now.state)

pub returns-clause-buffer : goal.returns-clause-buffer
returns-clause-buffer c = record {
  state = ap length (c.swap.ensures.x_after ∙ c.apply-cost.ensures.next)
      ∙ length-packed (after (has_bit c.args.buffer.now.state) c.drawn-choice.result.now) (length c.args.buffer.now.state) ∙ c.requires.buffer.state;
  next = ap length c.swap.ensures.y_after ∙ c.requires.buffer.state;
}

pub returns-clause-within : goal.returns-clause-within
returns-clause-within c =
    let given = choice_given c.args.problem.now c.actions.ensures.valid c.actions.result.now c.args.action c.index-actions-action.result
    c.as_slice.result.now c.draw.result c.drawn-choice.result.now c.actions.ensures.value c.requires.action c.index-actions-action.is
    c.as_slice.ensures c.drawn-choice.ensures in
    subst (λ n. n ≤ 10000000000000) (sym c.apply-cost.ensures.cost)
    (cost_within (length c.args.problem.now.atoms) c.drawn-choice.result.now given.1 (has_bit c.args.buffer.now.state))

pub returns-clause-step : goal.returns-clause-step
returns-clause-step c =
    let given = choice_given c.args.problem.now c.actions.ensures.valid c.actions.result.now c.args.action c.index-actions-action.result
    c.as_slice.result.now c.draw.result c.drawn-choice.result.now c.actions.ensures.value c.requires.action c.index-actions-action.is
    c.as_slice.ensures c.drawn-choice.ensures in record {
      choice = c.drawn-choice.result.now;
      is_drawn = ap (choice_drawn c.args.problem.now c.args.action) (sym c.draw.ensures.value) ∙ given.0;
      next = c.swap.ensures.x_after ∙ c.apply-cost.ensures.next;
      cost_is = c.apply-cost.ensures.cost;
    }
