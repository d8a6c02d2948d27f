-- The rows that a certificate keeps, and what they use.
--     IsShort row           the row's state has few words
--     kept_of row           the row by the atoms that hold in its state
--     kept_rows g rows      those of the rows that say more than is known of their states at first
--     name_of_code g code   the name of the action of a code; None where there is no such action
--     act_name g word       the name of the action that an upper word names; None where it names no action
--     atoms_in rows         the atoms of all rows
--     nothing n             the state of n words in which no atom holds
--     used_atoms g rows     the atoms that hold in some row, in rising order
--     act_names g rows      the names of the actions that rows take
--     HaveAtomsBelow n rows each row's atoms are below n
use Rattle.std.specs.Prelude.{ℕ, ◌*◌, ◌^◌, ◌<◌, false, List, [], ◌∷◌, Option, Some, None, map, filter, flat_map, length, option_map}
use Rattle.std.specs.List.{slice_get, All}
use Rattle.fixed_round.specs.Words.{code_of}
use Rattle.ground_model.specs.declared.action.GroundAction.{GroundAction}
use Rattle.ground_model.specs.Packed.{State, packed, words_for}
use Rattle.ground_model.specs.Ground.{Ground}
use Rattle.ground_step.specs.Atoms.{true_atoms}
use Rattle.ground_step.specs.Edits.{with_atoms}
use Rattle.bound_core.specs.declared.image.ImageRow.{ImageRow}
use Rattle.bound_core.specs.ends.Closing.{differs}
use Rattle.plan_report.specs.certificates.RowsKept.{KeptRow}

abbrev pub IsShort : ImageRow → Type 0
IsShort row = 64 * length row.state < 2 ^ 32

abbrev pub kept_of : ImageRow → KeptRow
kept_of row = record { atoms = true_atoms row.state; lower = row.lower; upper = row.upper }

abbrev pub kept_rows : Ground → List ImageRow → List KeptRow
kept_rows g rows = map kept_of (filter (differs g) rows)

abbrev pub name_of_code : Ground → ℕ → Option (List ℕ)
name_of_code g code = option_map (λ (a : GroundAction). a.name) (slice_get g.actions code)

abbrev pub act_name : Ground → ℕ → Option (List ℕ)
act_name g word = name_of_code g (code_of word)

abbrev pub atoms_in : List KeptRow → List ℕ
atoms_in rows = flat_map (λ (r : KeptRow). r.atoms) rows

abbrev pub nothing : ℕ → State
nothing n = packed (λ _. false) n

abbrev pub used_atoms : Ground → List KeptRow → List ℕ
used_atoms g rows = true_atoms (with_atoms (nothing (words_for (length g.atoms))) (atoms_in rows))

abbrev pub named : Option (List ℕ) → List (List ℕ)
named None = []
named (Some name) = name ∷ []

abbrev pub act_names : Ground → List KeptRow → List (List ℕ)
act_names g rows = flat_map (λ (r : KeptRow). named (act_name g r.upper)) rows

abbrev pub HaveAtomsBelow : ℕ → List KeptRow → Type 0
HaveAtomsBelow n rows = All (λ (r : KeptRow). All (λ q. q < n) r.atoms) rows
