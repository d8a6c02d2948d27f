-- The types and the objects of declarations, by number, and when a type is its own ancestor.
-- Source: PDDL 1.2 (McDermott et al. 1998), a hierarchy of types under `object`.
--     table_world types objects   what a table of these declarations says: the types, and each object once
--     type_names types            `object`, and then each type and each parent as they stand, each once
--     object_names w              the names of the objects
--     type_at, object_at, kind_at the type or the object of a number, and the object's type
--     is_known types o            the object's type is declared, is named as a parent, or is `object`
--     under types k o             the type with the number k is the type with the number o, or is under it
--     objects_under w k           the objects of the type with the number k, as a variable of this type ranges over them
--     is_circular types t         a declaration by which a type is its own ancestor; `object - object` says nothing
--     has_cycle types             there is one
use Rattle.std.specs.Prelude.{ℕ, Bool, not, ◌&&◌, List, [], ◌∷◌, map, flat_map, codes}
use Rattle.std.specs.List.{list_any}
use Rattle.ppddl_model.specs.declared.tree.ObjectDecl.{ObjectDecl}
use Rattle.ppddl_model.specs.declared.tree.TypeDecl.{TypeDecl}
use Rattle.ppddl_model.specs.State.{Name, same_name}
use Rattle.ppddl_model.specs.Objects.{World, once, is_under, objects_of}
use Rattle.ppddl_model.specs.WellFormed.{is_type}
use Rattle.type_table.specs.Numbered.{each_once, name_at}

abbrev pub table_world : List TypeDecl → List ObjectDecl → World
table_world types objects = record { types = types; objects = once objects; values = [] }

abbrev pub type_names : List TypeDecl → List Name
type_names types = each_once (codes "object" ∷ flat_map (λ (t : TypeDecl). t.name ∷ t.parent ∷ []) types)

abbrev pub object_names : World → List Name
object_names w = map (λ (o : ObjectDecl). o.name) w.objects

abbrev pub type_at : World → ℕ → Name
type_at w k = name_at (type_names w.types) k

abbrev pub object_at : World → ℕ → Name
object_at w k = name_at (object_names w) k

abbrev pub kind_at : World → ℕ → Name
kind_at w k = name_at (map (λ (o : ObjectDecl). o.kind) w.objects) k

abbrev pub is_known : List TypeDecl → ObjectDecl → Bool
is_known types o = is_type types o.kind

-- by number
abbrev pub under : List TypeDecl → ℕ → ℕ → Bool
under types kind other =
    is_under (table_world types []) (name_at (type_names types) kind) (name_at (type_names types) other)

abbrev pub objects_under : World → ℕ → List Name
objects_under w kind = objects_of w (record { name = []; kinds = type_at w kind ∷ [] })

abbrev pub is_circular : List TypeDecl → TypeDecl → Bool
is_circular types t =
    not (same_name t.name (codes "object") && same_name t.parent (codes "object"))
    && is_under (table_world types []) t.parent t.name

abbrev pub has_cycle : List TypeDecl → Bool
has_cycle types = list_any (is_circular types) types
