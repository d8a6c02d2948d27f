-- The laws of types and numbers, as statements.
--     NumbersAreOfNames        the number of a name is the place at which it stands
--     TypesDiffer              no name has two numbers
--     OrderedIsNotCircular     a declaration of a well-formed task is one of another type than `object` that is not circular
--     FittingHasNoCycle        so the types of a well-formed task have no cycle
use Rattle.std.specs.Prelude.{◌≡◌, ◌<◌, ℕ, true, false, not, ◌&&◌, List, length, Some, codes}
use Rattle.ppddl_model.specs.declared.tree.TypeDecl.{TypeDecl}
use Rattle.ppddl_model.specs.State.{Name, same_name}
use Rattle.ppddl_model.specs.WellFormed.{is_ordered, types_fit}
use Rattle.type_table.specs.Numbered.{number_of, name_at}
use Rattle.type_table.specs.Types.{type_names, is_circular, has_cycle}

abbrev pub NumbersAreOfNames : Type 0
NumbersAreOfNames = (names : List Name) (name : Name) (k : ℕ) → number_of names name ≡ Some k
    → (k < length names) × (name_at names k ≡ name)

abbrev pub TypesDiffer : Type 0
TypesDiffer = (types : List TypeDecl) (k : ℕ) → k < length (type_names types)
    → number_of (type_names types) (name_at (type_names types) k) ≡ Some k

abbrev pub OrderedIsNotCircular : Type 0
OrderedIsNotCircular = (types : List TypeDecl) (t : TypeDecl)
    → is_ordered types t ≡ (not (same_name t.name (codes "object")) && not (is_circular types t))

abbrev pub FittingHasNoCycle : Type 0
FittingHasNoCycle = (types : List TypeDecl) → types_fit types ≡ true → has_cycle types ≡ false
