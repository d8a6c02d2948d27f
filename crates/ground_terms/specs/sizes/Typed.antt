-- Worlds whose objects stand in a table of types.
--     names_of w kinds   the names of the objects of any of these types, in order
--     IsTyped w          each object is of a type that is declared, named as a parent, or `object`, and no name stands twice
use Rattle.std.specs.Prelude.{◌≡◌, true, List, map, filter}
use Rattle.std.specs.List.{list_all, list_any, IsDistinct}
use Rattle.ppddl_model.specs.declared.tree.ObjectDecl.{ObjectDecl}
use Rattle.ppddl_model.specs.State.{Name, same_name}
use Rattle.ppddl_model.specs.Objects.{World, is_under}
use Rattle.type_table.specs.Types.{is_known, object_names}

abbrev pub names_of : World → List Name → List Name
names_of w kinds = map (λ (o : ObjectDecl). o.name) (filter (λ (o : ObjectDecl). list_any (is_under w o.kind) kinds) w.objects)

pub record IsTyped (w : World) : Type 0 where
  pub known : list_all (is_known w.types) w.objects ≡ true
  pub distinct : IsDistinct same_name (object_names w)
