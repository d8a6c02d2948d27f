-- The kept instances of an action, as rows of numbers of objects.
--     bound_to w params row b     b with the parameters bound to the objects of a row, in order
--     binding_of_row w params row the binding of a row
--     IsRow w n row               a row of n numbers of objects
--     is_kept_under task a b      whether the instance of a under b is kept
--     IsAdded task a bs old new   behind the old rows stand those of the kept ones of these bindings, in order
--     AreKept task a rows         the rows are those of the kept instances of a, in order
use Rattle.std.specs.Prelude.{◌≡◌, ◌<◌, ℕ, Bool, All, List, [], ◌∷◌, ◌++◌, map, filter, length}
use Rattle.ppddl_model.specs.declared.tree.Action.{Action}
use Rattle.ppddl_model.specs.declared.tree.Param.{Param}
use Rattle.ppddl_model.specs.declared.tree.Task.{Task}
use Rattle.ppddl_model.specs.Objects.{World, Binding, bindings}
use Rattle.ppddl_model.specs.Steps.{world}
use Rattle.ppddl_model.specs.Changing.{is_kept}
use Rattle.type_table.specs.Types.{object_at}
use Rattle.task_instances.specs.facts.Facts.{table_of}
use Rattle.task_instances.specs.kept_rows.Rows.{Table}

abbrev pub bound_to : World → List Param → List ℕ → Binding → Binding
bound_to w [] row b = b
bound_to w (p ∷ params) [] b = b
bound_to w (p ∷ params) (o ∷ row) b = bound_to w params row ((p.name, object_at w o) ∷ b)

abbrev pub binding_of_row : World → List Param → List ℕ → Binding
binding_of_row w params row = bound_to w params row []

pub record IsRow (w : World) (n : ℕ) (row : List ℕ) : Type 0 where
  pub long : length row ≡ n
  pub within : All (λ o. o < length w.objects) row

abbrev pub is_kept_under : Task → Action → Binding → Bool
is_kept_under task a b = is_kept task (record { action = a; binding = b })

pub record IsAdded (task : Task) (a : Action) (bs : List Binding) (old new : Table) : Type 0 where
  pub more : List (List ℕ)
  pub width : new.width ≡ old.width
  pub rows : new.rows ≡ old.rows ++ more
  pub bound : map (binding_of_row (table_of task) a.params) more ≡ filter (is_kept_under task a) bs
  pub each : All (IsRow (table_of task) (length a.params)) more

pub record AreKept (task : Task) (a : Action) (t : Table) : Type 0 where
  pub bound : map (binding_of_row (table_of task) a.params) t.rows ≡ filter (is_kept_under task a) (bindings (world task) a.params [])
  pub each : All (IsRow (table_of task) (length a.params)) t.rows
