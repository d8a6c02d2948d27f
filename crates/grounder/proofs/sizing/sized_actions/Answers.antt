use Rattle.std.proofs.Common.{◌≡◌, ap, ◌∙◌}
use Rattle.ppddl_model.specs.declared.tree.Task.{Task}
use Rattle.ground_meaning.specs.choices.Limits.{condition_size}
use Rattle.ground_terms.specs.sizes.Counted.{counted}
use Rattle.task_instances.specs.facts.Facts.{table_of}
use Rattle.grounder.proofs.Totals.{goal_above, goal_within}
use Rattle.grounder.proofs.sizing.sized_actions.Goals as goal

pub returns-then-saturating_add-gt-MOST_GROUND_SIZE : goal.returns-then-saturating_add-gt-MOST_GROUND_SIZE
returns-then-saturating_add-gt-MOST_GROUND_SIZE c =
    let counts : c.condition_size-goal.result ≡ counted (condition_size (table_of c.args.facts.now) c.args.facts.now.problem.goal)
    = c.condition_size-goal.ensures ∙ ap (λ w. counted (condition_size w c.task.result.now.problem.goal)) c.table.ensures.table
    ∙ ap (λ (t : Task). counted (condition_size (table_of c.args.facts.now) t.problem.goal)) c.task.ensures in
    record {
      exact = λ charges same.
          goal_above c.args.facts.now charges c.args.tested c.in_ok-actions.actions.size c.condition_size-goal.result c.saturating_add.result
          (c.in_ok-actions.ensures.exact charges same).0 counts c.saturating_add.ensures c.if-saturating_add-gt-MOST_GROUND_SIZE.true;
    }

pub returns : goal.returns
returns c =
    let counts : c.condition_size-goal.result ≡ counted (condition_size (table_of c.args.facts.now) c.args.facts.now.problem.goal)
    = c.condition_size-goal.ensures ∙ ap (λ w. counted (condition_size w c.task.result.now.problem.goal)) c.table.ensures.table
    ∙ ap (λ (t : Task). counted (condition_size (table_of c.args.facts.now) t.problem.goal)) c.task.ensures in
    record {
      exact = λ charges same. (
        goal_within c.args.facts.now charges c.args.tested c.in_ok-actions.actions.size c.condition_size-goal.result c.saturating_add.result
            (c.in_ok-actions.ensures.exact charges same).0 counts c.saturating_add.ensures c.if-saturating_add-gt-MOST_GROUND_SIZE.false,
        (c.in_ok-actions.ensures.exact charges same).1,
      );
    }
