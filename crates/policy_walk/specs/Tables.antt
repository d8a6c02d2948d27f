-- The acts of rows by their states.
--     AreTablesOf g c t          the entries of the tables of c, as g numbers them
--     HasRows g c rows t         the table has the acts of these rows
use Rattle.std.specs.Prelude.{◌≡◌, map, List}
use Rattle.certificate.specs.Rows.{Row}
use Rattle.certificate.specs.Content.{Content}
use Rattle.certificate_check.specs.Claims.{atom_numbers, act_codes, row_of}
use Rattle.decision_process.specs.Readings.{act}
use Rattle.ground_model.specs.Packed.{State, same_state}
use Rattle.ground_model.specs.Ground.{Ground}
use Rattle.policy_walk.specs.declared.tables.Tables.{Tables}
use Rattle.policy_walk.specs.Policies.{Table, policy_by}

pub record AreTablesOf (g : Ground) (c : Content) (t : Tables) : Type 0 where
  pub atoms : t.atoms.items ≡ atom_numbers g c
  pub acts : t.acts.items ≡ act_codes g c

abbrev pub HasRows : Ground → Content → List Row → Table → Type 0
HasRows g c rows t = (s : State) → policy_by t s ≡ act same_state (map (row_of g c) rows) s
