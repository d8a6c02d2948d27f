-- A certificate beside a ground problem, as its checker keeps it.
--     Claimed                   the two
--     AreWithin n rows          each row's atoms are below n
--     HasRows g c width words known codes
--                               the states of the rows stand behind one another, width words each; of each row it is known whether
--                               the problem has its atoms, and of each entry of the table of acts which action it names
--     bounds_of row             the lower and the upper value of a row
--     bounds_in x s             those of the state's row, if it has one
use Rattle.std.specs.Prelude.{◌≡◌, ℕ, ◌<◌, Option, List, map, length, Bool, option_map}
use Rattle.std.specs.List.{flat_map, All}
use Rattle.certificate.specs.Rows.{Row}
use Rattle.certificate.specs.Content.{Content}
use Rattle.decision_process.specs.Readings as readings
use Rattle.decision_process.specs.Readings.{row_at}
use Rattle.ground_model.specs.Packed.{State, words_for, same_state}
use Rattle.ground_model.specs.Ground.{Ground}
use Rattle.certificate_check.specs.declared.row_check.bounds.Bounds.{Bounds}
use Rattle.certificate_check.specs.Claims.{act_codes, knows, row_state, rows_of}

pub record Claimed : Type 0 where
  pub problem : Ground
  pub certificate : Content

abbrev pub AreWithin : ℕ → List Row → Type 0
AreWithin n rows = All (λ (r : Row). All (λ i. i < n) r.atoms) rows

pub record HasRows (g : Ground) (c : Content) (width : ℕ) (words : List ℕ) (known : List Bool) (codes : List (Option ℕ)) : Type 0 where
  pub width_is : width ≡ words_for (length g.atoms)
  pub words_are : words ≡ flat_map (row_state g c) c.rows
  pub known_are : known ≡ map (knows g c) c.rows
  pub codes_are : codes ≡ act_codes g c

abbrev pub bounds_of : readings.Row State ℕ → Bounds
bounds_of row = record { lower = row.lower; upper = row.upper }

abbrev pub bounds_in : Claimed → State → Option Bounds
bounds_in x s = option_map bounds_of (row_at same_state (rows_of x.problem x.certificate x.certificate.rows) s)
