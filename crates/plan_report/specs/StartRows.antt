-- Starts by the rows of their states, as these are handed out.
--     row_act_text actions act     what a row says to do
--     row_line g x row             a start
use Rattle.std.specs.Prelude.{ℕ, List, codes}
use Rattle.fixed_round.specs.Words.{value_of}
use Rattle.decision_process.specs.Readings.{RowAct, GivesUp, AtGoal, Takes}
use Rattle.ground_model.specs.declared.action.GroundAction.{GroundAction}
use Rattle.ground_model.specs.declared.start.Start.{Start}
use Rattle.ground_model.specs.Ground.{Ground}
use Rattle.bound_core.specs.declared.image.ImageRow.{ImageRow}
use Rattle.bound_core.specs.ends.Closing.{act_in}
use Rattle.plan_report.specs.Solved.{action_text, known_line}

abbrev pub row_act_text : List GroundAction → RowAct ℕ → List ℕ
row_act_text actions GivesUp = codes "give-up"
row_act_text actions AtGoal = codes "goal"
row_act_text actions (Takes k) = action_text actions k

abbrev pub row_line : Ground → Start → ImageRow → List ℕ
row_line g x row =
    known_line g x row.lower (value_of row.upper) (row_act_text g.actions (act_in row.upper))
