-- The law of rows, as a statement.
--     RowsTell     the rows of ground atoms tell of each atom that has numbers whether it is among them
--     NamesStay    putting atoms in leaves the names of the predicates as they are
use Rattle.std.specs.Prelude.{◌≡◌, ℕ, List}
use Rattle.std.specs.List.{list_any, IsDistinct}
use Rattle.ppddl_model.specs.State.{Name, same_name, GroundAtom, same_atom}
use Rattle.ppddl_model.specs.Objects.{World}
use Rattle.type_table.specs.Types.{object_names}
use Rattle.task_instances.specs.fact_rows.Rows.{NumberedAtoms, none_of, atom_at, IsAtomRow, with_atoms}

abbrev pub RowsTell : Type 0
RowsTell = (names : List Name) (w : World) → IsDistinct same_name names → IsDistinct same_name (object_names w)
    → (atoms : List GroundAtom) (row : List ℕ) → IsAtomRow names w row
    → list_any (same_name row) (with_atoms w (none_of names) atoms).rows ≡ list_any (same_atom (atom_at names w row)) atoms

abbrev pub NamesStay : Type 0
NamesStay = (w : World) (a : NumberedAtoms) (atoms : List GroundAtom) → (with_atoms w a atoms).names ≡ a.names
