-- What the tests of a certificate compare with what it says.
--     greatest_lower g c r       the greatest lower value of the row's state that follows from those of the next states, which is their
--                                rounded backup
--     least_upper g c r          the least upper value that follows under the row's act; 0 where it names no action
--     AreRowSides g c r sides    the sides are these two, and there is no least upper value where the act is not right
--     AreSidesIn g c place sides those of the row in this place
--     lower_mean, upper_mean g c the means over the starts of the lower values, rounded down, and of the upper ones, rounded up
--     AreMeans g c means         the means are these two
use Rattle.std.specs.Prelude.{◌≡◌, ℕ, Option, Some, None}
use Rattle.std.specs.List.{slice_get}
use Rattle.certificate.specs.Rows.{Row}
use Rattle.certificate.specs.Content.{Content}
use Rattle.decision_process.specs.Process.{at_starts}
use Rattle.decision_process.specs.Backup.{floor, ceiling, lower_backup}
use Rattle.ground_model.specs.Packed.{State}
use Rattle.ground_model.specs.Ground.{Ground}
use Rattle.ground_model.specs.Steps.{ground_process, ground_starts}
use Rattle.certificate_check.specs.declared.row_check.act.Act.{Act}
use Rattle.certificate_check.specs.declared.row_check.ends.Means.{Means}
use Rattle.certificate_check.specs.declared.row_check.sides.Sides.{Sides}
use Rattle.certificate_check.specs.row_check.Sides as sides
use Rattle.certificate_check.specs.Claims.{row_state, act_of, low_in, high_in}
use Rattle.certificate_check.specs.Verdicts.{IsRightIn}

module _ (g : Ground) (c : Content) where
  abbrev pub greatest_lower : Row → ℕ
  greatest_lower r = lower_backup (ground_process g) (low_in g c) (row_state g c r)

  abbrev pub least_upper_by : State → Option Act → ℕ
  least_upper_by s None = 0
  least_upper_by s (Some act) = sides.least_upper (ground_process g) (high_in g c) s act

  abbrev pub least_upper : Row → ℕ
  least_upper r = least_upper_by (row_state g c r) (act_of g c r.act)

  abbrev pub IsLeastUpperIn : State → Option Act → Option ℕ → Type 0
  IsLeastUpperIn s act None = IsRightIn g c (low_in g c) (high_in g c) s act → ⊥
  IsLeastUpperIn s act (Some value) = IsRightIn g c (low_in g c) (high_in g c) s act × (value ≡ least_upper_by s act)

  pub record AreRowSides (r : Row) (sides : Sides) : Type 0 where
    pub greatest_lower : sides.greatest_lower ≡ greatest_lower r
    pub least_upper : IsLeastUpperIn (row_state g c r) (act_of g c r.act) sides.least_upper

  abbrev pub AreSidesIn : ℕ → Sides → Type 0
  AreSidesIn place sides = (r : Row) → slice_get c.rows place ≡ Some r → AreRowSides r sides

  abbrev pub lower_mean : ℕ
  lower_mean = floor (at_starts (low_in g c) (ground_starts g)) g.start_den

  abbrev pub upper_mean : ℕ
  upper_mean = ceiling (at_starts (high_in g c) (ground_starts g)) g.start_den

  pub record AreMeans (means : Means) : Type 0 where
    pub lower : means.lower ≡ lower_mean
    pub upper : means.upper ≡ upper_mean
