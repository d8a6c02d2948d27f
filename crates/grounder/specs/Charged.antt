-- The charges of a task.
--     IsCharged task terms penalty   no action may cost nothing, and the charges that are asked for have this penalty
use Rattle.std.specs.Prelude.{◌≡◌, ℕ, None, Some}
use Rattle.ppddl_model.specs.declared.tree.Task.{Task}
use Rattle.ppddl_model.specs.Steps.{Terms, charges_of}
use Rattle.grounder.specs.costs.Charges.{charged_with}
use Rattle.ground_meaning.specs.refusals.Limits.{free_action}

pub record IsCharged (task : Task) (terms : Terms) (penalty : ℕ) : Type 0 where
  pub none_free : free_action task terms ≡ None
  pub charges : charges_of terms task ≡ Some (charged_with terms.step_cost penalty)
