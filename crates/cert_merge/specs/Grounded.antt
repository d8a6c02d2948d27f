-- Rows of names as rows of the process of a ground problem.
--     known_named g r      the problem has each atom of the row
--     state_named g r      the state of the row
--     act_named g act      what an act does; None where it names no action of the problem
--     ground_row g r       the row as one of the process
use Rattle.std.specs.Prelude.{ℕ, Bool, Option, Some, is_some, List, length}
use Rattle.std.specs.List.{flat_map, list_all}
use Rattle.certificate.specs.declared.named.NamedAct.{NamedAct}
use Rattle.certificate.specs.declared.named.NamedAct.TheVariants as named
use Rattle.certificate.specs.declared.named.NamedRow.{NamedRow}
use Rattle.certificate_check.specs.Claims.{listed, doing, taken}
use Rattle.certificate_check.specs.declared.row_check.act.Act.{Act}
use Rattle.certificate_check.specs.declared.row_check.act.Act.TheVariants.{GiveUp, Goal}
use Rattle.decision_process.specs.Readings.{Row}
use Rattle.ground_model.specs.Packed.{State, words_for}
use Rattle.ground_model.specs.Ground.{Ground}
use Rattle.ground_step.specs.Atoms.{state_of}
use Rattle.ground_step.specs.Names.{place_of, action_names}

module _ (g : Ground) where
  abbrev pub known_named : NamedRow → Bool
  known_named r = list_all (λ name. is_some (place_of g.atoms name)) r.atoms

  abbrev pub numbers_named : List (List ℕ) → List ℕ
  numbers_named atoms = flat_map (λ name. listed (place_of g.atoms name)) atoms

  abbrev pub state_named : NamedRow → State
  state_named r = state_of (numbers_named r.atoms) (words_for (length g.atoms))

  abbrev pub act_named : NamedAct → Option Act
  act_named named.GiveUp = Some GiveUp
  act_named named.Goal = Some Goal
  act_named (named.Do name) = doing (place_of (action_names g) name)

  abbrev pub ground_row : NamedRow → Row State ℕ
  ground_row r = record { state = state_named r; lower = r.lower; upper = r.upper; act = taken (act_named r.act) }
