-- What the tests of a row compare its values with.
--     quitting penalty act, ending act
--                                what giving up costs, and what ending at a goal does, if this is the act
--     has_upper_within act value least
--                                the value is at least this; where the act ends at a goal, it is this
--     least_upper p high s act   the least upper value that an act which is right allows: the penalty where it gives up, 0 at a goal,
--                                else what the action gives, rounded up
--     IsLeastUpper p high s act value
--                                it is this number, and the act is right; None where the act is not right
--     AreSides p low high s act sides
--                                the greatest lower value that follows is the rounded backup of the lower values; the least upper
--                                value is that of the act
--     HaveSides g ..             of the process of a ground problem
--     UpperIsWithin p s least value
--                                the value is at least this, and at a goal this
use Rattle.std.specs.Prelude.{◌≡◌, ℕ, ◌≤◌, nat_le, eqb, true, Bool, Option, Some, None}
use Rattle.decision_process.specs.Process.{Process}
use Rattle.decision_process.specs.Backup.{lower_backup, upper_candidate}
use Rattle.ground_model.specs.Packed.{State}
use Rattle.ground_model.specs.Ground.{Ground}
use Rattle.ground_model.specs.Steps.{ground_process}
use Rattle.certificate_check.specs.declared.row_check.act.Act.{Act}
use Rattle.certificate_check.specs.declared.row_check.act.Act.TheVariants.{GiveUp, Goal, Do}
use Rattle.certificate_check.specs.declared.row_check.sides.Sides.{Sides}
use Rattle.certificate_check.specs.row_check.Faults.{IsRight}

abbrev pub quitting : ℕ → Act → Option ℕ
quitting penalty GiveUp = Some penalty
quitting penalty Goal = None
quitting penalty (Do k) = None

abbrev pub ending : Act → Option ℕ
ending Goal = Some 0
ending GiveUp = None
ending (Do k) = None

abbrev pub has_upper_within : Act → ℕ → ℕ → Bool
has_upper_within Goal value least = eqb value least
has_upper_within GiveUp value least = nat_le least value
has_upper_within (Do k) value least = nat_le least value

module _ (p : Process State ℕ) where
  abbrev pub least_upper : (State → ℕ) → State → Act → ℕ
  least_upper high s GiveUp = p.penalty
  least_upper high s Goal = 0
  least_upper high s (Do k) = upper_candidate p high k s

  abbrev pub IsLeastUpper : (State → ℕ) → State → Act → Option ℕ → Type 0
  IsLeastUpper high s act None = IsRight p s act → ⊥
  IsLeastUpper high s act (Some value) = IsRight p s act × (value ≡ least_upper high s act)

  pub record AreSides (low high : State → ℕ) (s : State) (act : Act) (sides : Sides) : Type 0 where
    pub greatest_lower : sides.greatest_lower ≡ lower_backup p low s
    pub least_upper : IsLeastUpper high s act sides.least_upper

  pub record UpperIsWithin (s : State) (least value : ℕ) : Type 0 where
    pub above : least ≤ value
    pub at_goal : p.goal s ≡ true → value ≡ least

-- of a ground problem
abbrev pub HaveSides : Ground → (State → ℕ) → (State → ℕ) → State → Act → Sides → Type 0
HaveSides g low high s act sides = AreSides (ground_process g) low high s act sides
