-- What a certificate of a ground problem says of the task for which the problem stands.
--     carried_act, carried_row   what a row says of the state for which its packed state stands: it takes the instance for which its
--                                action stands
--     task_certificate g task c  so does each row
use Rattle.std.specs.Prelude.{ℕ, map, Option, Some, None}
use Rattle.std.specs.List.{slice_get}
use Rattle.certificate.specs.Content.{Content}
use Rattle.decision_process.specs.Readings.{RowAct, GivesUp, AtGoal, Takes, Row, Certificate}
use Rattle.ppddl_model.specs.declared.tree.Task.{Task}
use Rattle.ppddl_model.specs.State.{State}
use Rattle.ppddl_model.specs.Changing.{kept_instances}
use Rattle.ppddl_model.specs.Steps.{Instance}
use Rattle.ground_model.specs.Packed as packed
use Rattle.ground_model.specs.Ground.{Ground}
use Rattle.ground_meaning.specs.stands.Stands.{state_of}
use Rattle.certificate_check.specs.Claims.{rows_of}

abbrev pub taking : Option Instance → RowAct Instance
taking None = GivesUp
taking (Some i) = Takes i

module _ (g : Ground) (task : Task) where
  abbrev pub carried_act : RowAct ℕ → RowAct Instance
  carried_act GivesUp = GivesUp
  carried_act AtGoal = AtGoal
  carried_act (Takes k) = taking (slice_get (kept_instances task) k)

  abbrev pub carried_row : Row packed.State ℕ → Row State Instance
  carried_row row = record { state = state_of g task row.state; lower = row.lower; upper = row.upper; act = carried_act row.act }

  abbrev pub task_certificate : Content → Certificate State Instance
  task_certificate c = record {
    penalty = c.penalty;
    rows = map carried_row (rows_of g c c.rows);
    lower = c.lower;
    upper = c.upper;
  }
