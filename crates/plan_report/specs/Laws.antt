-- What holds of reports, as statements.
--     AgreeAt g rows others s    two lists of rows say the same of a state
--     ReportsAgree               where they do so of each start, the report by the one is that by the other
--     StateTextIsShort           the text of a row's state has at most so many bytes
use Rattle.std.specs.Prelude.{◌≡◌, ℕ, ◌+◌, ◌≤◌, List, length, Contains}
use Rattle.certificate.specs.Rows as certified
use Rattle.certificate.specs.Content.{Content}
use Rattle.decision_process.specs.Readings.{Row, low, high, act}
use Rattle.ground_model.specs.declared.start.Start.{Start}
use Rattle.ground_model.specs.Packed.{State, same_state}
use Rattle.ground_model.specs.Ground.{Ground}
use Rattle.ground_model.specs.Steps.{ground_process}
use Rattle.plan_report.specs.declared.accounts.TheConstants.{MOST_STATE_BYTES}
use Rattle.plan_report.specs.Account.{state_text}
use Rattle.plan_report.specs.Solved.{Solved, solve_text}

pub record AgreeAt (g : Ground) (rows others : List (Row State ℕ)) (s : State) : Type 0 where
  pub low_same : low same_state rows s ≡ low same_state others s
  pub high_same : high (ground_process g) same_state rows s ≡ high (ground_process g) same_state others s
  pub act_same : act same_state rows s ≡ act same_state others s

abbrev pub ReportsAgree : Type 0
ReportsAgree = (g : Ground) (rows others : List (Row State ℕ))
    → ((x : Start) → Contains g.starts x → AgreeAt g rows others x.state)
    → (s : Solved) → solve_text g rows s ≡ solve_text g others s

abbrev pub StateTextIsShort : Type 0
StateTextIsShort = (c : Content) (r : certified.Row) → length (state_text c r) ≤ MOST_STATE_BYTES + 10
