-- What a certificate says of a ground problem: its rows as rows of the problem's process.
--     numbered names texts        the places of texts among names, if they have any
--     atom_numbers g c            the entries of the table of atoms as the problem numbers them; None where it has no such atom
--     act_codes g c               the actions that the entries of the table of acts name; None where one names none
-- Over a table of numbers:
--     numbers_of numbers atoms    the numbers of those of a row's atoms that the problem has
--     is_known numbers r          the problem has each atom of the row
--     state_of_row numbers n r    the state of n words in which the row's atoms are true, and no other
--     states_of numbers n rows    the states of rows, one behind another
-- Over the tables of a certificate:
--     knows g c r                 the problem has each atom of the row
--     row_state g c r             the state of the row
--     act_of g c act              what an act does; None where it names no action of the problem
--     row_of g c r                the row as one of the process; an act that names no action gives up
--     rows_of g c rows            those of rows whose atoms the problem has: a row with another atom is of no state
--     ground_certificate g c      the certificate of these rows
--     low_in, high_in g c s       the values of a state: 0 and the penalty without a row, 0 at a goal
--     IsBalancedFor g c           the problem has the atoms and the actions of the rows, and their certificate is balanced
use Rattle.std.specs.Prelude.{ℕ, Option, Some, None, is_some, List, [], ◌∷◌, map, filter, get_or, length, Bool, IsTrue, Contains}
use Rattle.std.specs.List.{flat_map, list_all}
use Rattle.certificate.specs.declared.act.Act as cert
use Rattle.certificate.specs.declared.act.Act.TheVariants as acts
use Rattle.certificate.specs.Rows.{Row}
use Rattle.certificate.specs.Content.{Content}
use Rattle.decision_process.specs.Readings as readings
use Rattle.decision_process.specs.Readings.{RowAct, GivesUp, AtGoal, Takes, Certificate, low, high, IsBalancedCertificate}
use Rattle.ground_model.specs.Packed.{State, words_for, same_state}
use Rattle.ground_model.specs.Ground.{Ground}
use Rattle.ground_model.specs.Steps.{ground_process, ground_starts}
use Rattle.ground_step.specs.Atoms.{state_of}
use Rattle.ground_step.specs.Names.{place_of, action_names}
use Rattle.certificate_check.specs.declared.row_check.act.Act.{Act}
use Rattle.certificate_check.specs.declared.row_check.act.Act.TheVariants.{GiveUp, Goal, Do}

abbrev pub numbered : List (List ℕ) → List (List ℕ) → List (Option ℕ)
numbered names texts = map (place_of names) texts

abbrev pub listed : Option ℕ → List ℕ
listed None = []
listed (Some q) = q ∷ []

-- ---- over a table of numbers

module _ (numbers : List (Option ℕ)) where
  abbrev pub number_at : ℕ → Option ℕ
  number_at i = get_or numbers i None

  abbrev pub numbers_of : List ℕ → List ℕ
  numbers_of atoms = flat_map (λ i. listed (number_at i)) atoms

  abbrev pub are_known : List ℕ → Bool
  are_known atoms = list_all (λ i. is_some (number_at i)) atoms

  abbrev pub is_known : Row → Bool
  is_known r = are_known r.atoms

  abbrev pub state_of_row : ℕ → Row → State
  state_of_row n r = state_of (numbers_of r.atoms) n

  abbrev pub states_of : ℕ → List Row → List ℕ
  states_of n rows = flat_map (state_of_row n) rows

abbrev pub doing : Option ℕ → Option Act
doing None = None
doing (Some k) = Some (Do k)

abbrev pub act_by : List (Option ℕ) → cert.Act → Option Act
act_by codes acts.GiveUp = Some GiveUp
act_by codes acts.Goal = Some Goal
act_by codes (acts.Do i) = doing (get_or codes i None)

abbrev pub taken : Option Act → RowAct ℕ
taken None = GivesUp
taken (Some GiveUp) = GivesUp
taken (Some Goal) = AtGoal
taken (Some (Do k)) = Takes k

-- ---- over the tables of a certificate

module _ (g : Ground) (c : Content) where
  abbrev pub atom_numbers : List (Option ℕ)
  atom_numbers = numbered g.atoms c.atoms

  abbrev pub act_codes : List (Option ℕ)
  act_codes = numbered (action_names g) c.acts

  abbrev pub knows : Row → Bool
  knows r = is_known atom_numbers r

  abbrev pub row_state : Row → State
  row_state r = state_of_row atom_numbers (words_for (length g.atoms)) r

  abbrev pub act_of : cert.Act → Option Act
  act_of act = act_by act_codes act

  abbrev pub row_of : Row → readings.Row State ℕ
  row_of r = record { state = row_state r; lower = r.lower; upper = r.upper; act = taken (act_of r.act) }

  abbrev pub rows_of : List Row → List (readings.Row State ℕ)
  rows_of rows = map row_of (filter knows rows)

  abbrev pub ground_certificate : Certificate State ℕ
  ground_certificate = record { penalty = c.penalty; rows = rows_of c.rows; lower = c.lower; upper = c.upper }

  abbrev pub low_in : State → ℕ
  low_in s = low same_state (rows_of c.rows) s

  abbrev pub high_in : State → ℕ
  high_in s = high (ground_process g) same_state (rows_of c.rows) s

  pub record IsBalancedFor : Type 0 where
    pub atoms_known : (r : Row) → Contains c.rows r → IsTrue (knows r)
    pub acts_named : (r : Row) → Contains c.rows r → IsTrue (is_some (act_of r.act))
    pub balanced : IsBalancedCertificate (ground_process g) same_state (ground_starts g) g.start_den ground_certificate
