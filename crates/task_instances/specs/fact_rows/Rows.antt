-- Ground atoms as rows of numbers, over the names of predicates and a world of objects.
--     declared_name p        the name of a declared predicate
--     NumberedAtoms          the names of the predicates, each once, and rows
--     none_of names          these names, and no rows
--     atom_at names w row    the ground atom of a row: the number of its predicate, and those of its objects
--     IsAtomRow names w row  each number is one of a predicate, or of an object
--     put_first k row        the row behind a number, None where one of them is none
--     numbers_of names more  the places of names among others, None where one has none
--     row_of names w q       the row of a ground atom, None where one of its names has no number
--     rows_in row            this row, if any
--     rows_of names w qs     the rows of ground atoms, of those that have one
--     with_atom w a q        one ground atom more, if it has a row
--     with_atoms w a qs      so with each of these
use Rattle.std.specs.Prelude.{ℕ, ◌<◌, All, List, [], ◌∷◌, map, flat_map, length, Option, Some, None}
use Rattle.ppddl_model.specs.declared.tree.PredicateDecl.{PredicateDecl}
use Rattle.ppddl_model.specs.State.{Name, GroundAtom}
use Rattle.ppddl_model.specs.Objects.{World}
use Rattle.type_table.specs.Numbered.{number_of, name_at}
use Rattle.type_table.specs.Types.{object_names, object_at}
use Rattle.task_instances.specs.fact_rows.Adding.{with_names}

abbrev pub declared_name : PredicateDecl → Name
declared_name p = p.name

pub record NumberedAtoms : Type 0 where
  pub names : List Name
  pub rows : List (List ℕ)

abbrev pub none_of : List Name → NumberedAtoms
none_of names = record { names = names; rows = [] }

abbrev pub atom_at : List Name → World → List ℕ → GroundAtom
atom_at names w [] = []
atom_at names w (p ∷ row) = name_at names p ∷ map (object_at w) row

abbrev pub IsAtomRow : List Name → World → List ℕ → Type 0
IsAtomRow names w [] = ⊥
IsAtomRow names w (p ∷ row) = (p < length names) × All (λ o. o < length w.objects) row

abbrev pub put_first : Option ℕ → Option (List ℕ) → Option (List ℕ)
put_first (Some k) (Some row) = Some (k ∷ row)
put_first (Some k) None = None
put_first None row = None

abbrev pub numbers_of : List Name → List Name → Option (List ℕ)
numbers_of names [] = Some []
numbers_of names (n ∷ more) = put_first (number_of names n) (numbers_of names more)

abbrev pub row_of : List Name → World → GroundAtom → Option (List ℕ)
row_of names w [] = None
row_of names w (p ∷ objects) = put_first (number_of names p) (numbers_of (object_names w) objects)

abbrev pub rows_in : Option (List ℕ) → List (List ℕ)
rows_in (Some row) = row ∷ []
rows_in None = []

abbrev pub rows_of : List Name → World → List GroundAtom → List (List ℕ)
rows_of names w = flat_map (λ q. rows_in (row_of names w q))

abbrev pub with_atom : World → NumberedAtoms → GroundAtom → NumberedAtoms
with_atom w a q = record { names = a.names; rows = with_names a.rows (rows_in (row_of a.names w q)) }

abbrev pub with_atoms : World → NumberedAtoms → List GroundAtom → NumberedAtoms
with_atoms w a [] = a
with_atoms w a (q ∷ more) = with_atoms w (with_atom w a q) more
