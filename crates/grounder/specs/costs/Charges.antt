-- What steps cost, and the penalty of giving up.
--     any_decreases a          whether a `decrease` stands in the effect of an action
--     step_charges c           charges with this step cost; what a step costs does not depend on the penalty
--     is_free task base a      whether an action may cost nothing, with this base cost
--     line_of a                the line of its name
--     asked penalty c          what is asked for: a penalty, if any, and a step cost
--     charged_with c penalty   charges with this step cost and penalty
use Rattle.std.specs.Prelude.{ℕ, ◌+◌, ◌==◌, Bool, Option}
use Rattle.ppddl_model.specs.declared.tree.Action.{Action}
use Rattle.ppddl_model.specs.declared.tree.Task.{Task}
use Rattle.ppddl_model.specs.Costs.{decreases, unconditional_cost}
use Rattle.ppddl_model.specs.Steps.{Charges, Terms, world}

abbrev pub any_decreases : Action → Bool
any_decreases a = decreases a.effect

abbrev pub step_charges : ℕ → Charges
step_charges step_cost = record { penalty = 0; step_cost = step_cost }

abbrev pub is_free : Task → ℕ → Action → Bool
is_free task base a = unconditional_cost (world task) a.effect + base == 0

abbrev pub line_of : Action → ℕ
line_of a = a.line

abbrev pub asked : Option ℕ → ℕ → Terms
asked penalty step_cost = record { penalty = penalty; step_cost = step_cost }

abbrev pub charged_with : ℕ → ℕ → Charges
charged_with step_cost penalty = record { penalty = penalty; step_cost = step_cost }
