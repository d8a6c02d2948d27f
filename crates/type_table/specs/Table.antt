-- How contracts see a table, and what it keeps.
--     world_of types objects kinds      the world of types, and of objects by the numbers of their types
--     IsTable types objects kinds rows  the objects are distinct and have types, and a row has the objects of a type
use Rattle.std.specs.Prelude.{◌≡◌, ◌<◌, ℕ, List, [], length, Vec, All}
use Rattle.std.specs.List.{IsDistinct}
use Rattle.ppddl_model.specs.declared.tree.TypeDecl.{TypeDecl}
use Rattle.ppddl_model.specs.State.{Name, same_name}
use Rattle.ppddl_model.specs.Objects.{World}
use Rattle.type_table.specs.Reading.{objects_of_numbers}
use Rattle.type_table.specs.Types.{type_names}
use Rattle.type_table.specs.Hierarchy.{AreMembers}

abbrev pub world_of : List TypeDecl → List Name → List ℕ → World
world_of types objects kinds = record { types = types; objects = objects_of_numbers (type_names types) objects kinds; values = [] }

pub record IsTable {A : Type 0} (types : List TypeDecl) (objects : List Name) (kinds : List ℕ) (rows : List (Vec ℕ A)) : Type 0 where
  pub long : length kinds ≡ length objects
  pub within : All (λ k. k < length (type_names types)) kinds
  pub distinct : IsDistinct same_name objects
  pub members : AreMembers types kinds rows
