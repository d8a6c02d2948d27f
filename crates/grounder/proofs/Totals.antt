-- The limits of kept instances, and of the size with the goal.
use Rattle.std.proofs.Common.{◌≡◌, ℕ, ◌+◌, ◌<◌, ◌≤◌, sym, ap, ◌∙◌, arith}
use Rattle.std.specs.Prelude.{Result, Ok, Err}
use Rattle.plain_list.specs.Results.{◌>>=◌}
use Rattle.ppddl_model.specs.declared.tree.Task.{Task}
use Rattle.ppddl_model.specs.Changing.{kept_instances}
use Rattle.ppddl_model.specs.Steps.{Charges, world}
use Rattle.ground_meaning.specs.choices.Limits.{condition_size}
use Rattle.ground_meaning.specs.declared.refusals.limits.LimitCode.{LimitCode}
use Rattle.ground_meaning.specs.declared.refusals.limits.LimitCode.TheVariants.{GroundSize}
use Rattle.ground_meaning.specs.refusals.Codes.{most_of}
use Rattle.ground_meaning.specs.refusals.Limits.{within, instances_within}
use Rattle.ground_terms.specs.sizes.Counted.{counted}
use Rattle.ground_terms.proofs.lemmas.sizes.Forgetting.{condition_forgets}
use Rattle.task_instances.specs.facts.Facts.{table_of}
use Rattle.grounder.proofs.lemmas.limits.Counting.{passes, fails}
use Rattle.grounder.specs.Limited.{sized}

module _ (task : Task) (charges : Charges) (tested : ℕ) where
  abbrev goal_size : ℕ
  goal_size = condition_size (world task) task.problem.goal

  abbrev with_goal : Result ℕ LimitCode → Result (Unit {0}) LimitCode
  with_goal r = r >>= λ size. within (size + goal_size) GroundSize

  abbrev instances : Result ℕ LimitCode
  instances = instances_within task charges 0 tested (kept_instances task)

  module _ (size goal whole : ℕ) (is : instances ≡ Ok size) (counts : goal ≡ counted (condition_size (table_of task) task.problem.goal))
      (sum : whole ≡ counted (size + goal)) where
    goal_is : goal ≡ counted goal_size
    goal_is = counts ∙ ap counted (sym (condition_forgets (table_of task) task.problem.values task.problem.goal))

    pub goal_above : most_of GroundSize < whole → sized task charges tested ≡ Err GroundSize
    goal_above above =
        let same : goal ≡ counted goal_size = goal_is in
        let over : most_of GroundSize < size + goal_size = omega (arith, same, sum, above) in
        ap with_goal is ∙ fails (size + goal_size) GroundSize over

    pub goal_within : whole ≤ most_of GroundSize → sized task charges tested ≡ Ok tt
    goal_within below =
        let same : goal ≡ counted goal_size = goal_is in
        let inside : size + goal_size ≤ most_of GroundSize = omega (arith, same, sum, below) in
        ap with_goal is ∙ passes (size + goal_size) GroundSize inside
