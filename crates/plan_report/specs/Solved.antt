-- The report of a search that has ended. Each line ends with a line feed.
--     ending_line e                the first line
--     ending_of gap lower upper given ids
--                                  how a search ends whose interval is this, where so many of the ids are given out
--     Solved                       what is told of a search: how it ended, its interval over the starts, how many states it found, and
--                                  how many rounds it made
--     action_text actions k        the name of an action; nothing where there is no such action
--     act_text actions act         what to do: to give up, or to take an action
--     known_line g x lower upper act
--                                  a start: its probability, its interval, what to do there, and its true atoms
-- By what is known of states, as rows of the problem's process:
--     shown_act g rows s           what to do in a state; at a goal, that it is one
--     solved_line g rows x         a start
--     solve_text g rows s          the report
--     solved_of g rows given ids gap rounds
--                                  what is told where these rows are handed out in the end
use Rattle.std.specs.Prelude.{ℕ, ◌+◌, nat_le, if◌then◌else◌, cond, List, [], ◌++◌, length, codes, Option, Some, None}
use Rattle.std.specs.List.{flat_map, slice_get}
use Rattle.decision_process.specs.Readings.{Row, low, high, act}
use Rattle.ground_model.specs.declared.action.GroundAction.{GroundAction}
use Rattle.ground_model.specs.declared.start.Start.{Start}
use Rattle.ground_model.specs.Packed.{State, same_state}
use Rattle.ground_model.specs.Ground.{Ground}
use Rattle.ground_model.specs.Steps.{ground_process}
use Rattle.ground_step.specs.Atoms.{true_atoms}
use Rattle.bound_core.specs.declared.image.ImageRow.{ImageRow}
use Rattle.bound_core.specs.ends.Ends.{closing_low, closing_high}
use Rattle.plan_report.specs.declared.ending.Ending.{Ending}
use Rattle.plan_report.specs.declared.ending.Ending.TheVariants.{Converged, Budget, TableFull}
use Rattle.plan_report.specs.Units.{units}
use Rattle.plan_report.specs.Reports.{line, counted_line, fraction_text, interval_line, atoms_text}

-- ---- how a search ends

abbrev pub ending_line : Ending → List ℕ
ending_line Converged = codes "converged\n"
ending_line Budget = codes "stopped budget\n"
ending_line TableFull = codes "stopped table-full\n"

abbrev pub ending_of : ℕ → ℕ → ℕ → ℕ → ℕ → Ending
ending_of gap lower upper given ids =
    if nat_le upper (lower + gap) then Converged
    else if nat_le ids given then TableFull
    else Budget

pub record Solved : Type 0 where
  pub ending : Ending
  pub lower : ℕ
  pub upper : ℕ
  pub states : ℕ
  pub rounds : ℕ

-- ---- lines of starts

module _ (actions : List GroundAction) where
  abbrev pub action_text : ℕ → List ℕ
  action_text k = elim (slice_get actions k) [ Some a ↦ a.name | None ↦ [] ]

  abbrev pub act_text : Option ℕ → List ℕ
  act_text None = codes "give-up"
  act_text (Some k) = action_text k

abbrev pub known_line : Ground → Start → ℕ → ℕ → List ℕ → List ℕ
known_line g x lower upper act =
    line (codes "start " ++ fraction_text x.weight g.start_den
    ++ codes " " ++ units lower ++ codes " " ++ units upper ++ codes " " ++ act
    ++ codes " :" ++ atoms_text g.atoms (true_atoms x.state))

-- ---- the report

module _ (g : Ground) (rows : List (Row State ℕ)) where
  abbrev pub shown_act : State → List ℕ
  shown_act s = cond ((ground_process g).goal s) (codes "goal") (act_text g.actions (act same_state rows s))

  abbrev pub solved_line : Start → List ℕ
  solved_line x =
      known_line g x (low same_state rows x.state) (high (ground_process g) same_state rows x.state)
      (shown_act x.state)

  abbrev pub solve_text : Solved → List ℕ
  solve_text s =
      ending_line s.ending ++ interval_line s.lower s.upper
      ++ counted_line (codes "states ") s.states
      ++ counted_line (codes "rounds ") s.rounds
      ++ flat_map solved_line g.starts

abbrev pub solved_of : Ground → List ImageRow → ℕ → ℕ → ℕ → ℕ → Solved
solved_of g rows given ids gap rounds = record {
  ending = ending_of gap (closing_low g rows) (closing_high g rows) given ids;
  lower = closing_low g rows;
  upper = closing_high g rows;
  states = length rows;
  rounds = rounds;
}
