-- How contracts see the parts of a table.
--     items_of v               the items of a vector
--     IsLinkOf names l t       l is the declaration t by number
--     IsKindOf types k o       k is the number of the type of o
--     has_kind types o         its type has a number
--     with_type names t        the names, and behind them those of a declaration that are not there
--     type_of names l          the declaration that a link stands for
--     objects_of_numbers types names kinds
--                              the declarations of names with the numbers of their types
use Rattle.std.specs.Prelude.{◌≡◌, ℕ, Bool, is_some, List, [], ◌∷◌, Vec, Some}
use Rattle.ppddl_model.specs.declared.tree.ObjectDecl.{ObjectDecl}
use Rattle.ppddl_model.specs.declared.tree.TypeDecl.{TypeDecl}
use Rattle.ppddl_model.specs.State.{Name}
use Rattle.type_table.specs.declared.link.Link.{Link}
use Rattle.type_table.specs.Numbered.{number_of, name_at, with_name}

abbrev pub items_of : {X A : Type 0} → Vec X A → List X
items_of v = v.items

pub record IsLinkOf (names : List Name) (l : Link) (t : TypeDecl) : Type 0 where
  pub child : number_of names t.name ≡ Some l.child
  pub parent : number_of names t.parent ≡ Some l.parent

abbrev pub IsKindOf : List Name → ℕ → ObjectDecl → Type 0
IsKindOf types k o = number_of types o.kind ≡ Some k

abbrev pub has_kind : List Name → ObjectDecl → Bool
has_kind types o = is_some (number_of types o.kind)

abbrev pub with_type : List Name → TypeDecl → List Name
with_type names t = with_name (with_name names t.name) t.parent

abbrev pub type_of : List Name → Link → TypeDecl
type_of names l = record { name = name_at names l.child; parent = name_at names l.parent }

abbrev pub objects_of_numbers : List Name → List Name → List ℕ → List ObjectDecl
objects_of_numbers types [] kinds = []
objects_of_numbers types (name ∷ names) [] = []
objects_of_numbers types (name ∷ names) (k ∷ kinds) =
    record { name = name; kind = name_at types k } ∷ objects_of_numbers types names kinds
