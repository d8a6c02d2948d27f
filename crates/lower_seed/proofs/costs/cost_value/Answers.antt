use Rattle.std.proofs.Common.{min, sym, subst, ◌∙◌}
use Rattle.decision_process.specs.under.Under.{IsUnder}
use Rattle.ground_model.specs.Steps.{ground_process}
use Rattle.lower_seed.proofs.LeastCosts.{least_choice_is_under}
use Rattle.lower_seed.proofs.costs.cost_value.Goals as goal

pub returns-else-is_goal-clause-under : goal.returns-else-is_goal-clause-under
returns-else-is_goal-clause-under c =
    let g = c.args.problem.now in let s = c.args.state.now in
    subst (λ n. IsUnder (ground_process g) n s)
    (sym (c.smaller.ensures ∙ (λ j. min (c.penalty-quit.ensures.value j) (c.requires.least j))))
    (least_choice_is_under g c.penalty-quit.ensures.valid s (sym c.is_goal.ensures ∙ c.if-is_goal.false))
