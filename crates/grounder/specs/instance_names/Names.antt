-- Instances of actions by rows of numbers of objects, and their names.
--     variables_of a              the variables of an action, in order
--     instance_of_row task a row  the instance of an action whose objects are those of a row
--     Names                       a task and the action whose instances are named
--     names_of task a             the names of the instances of this action
--     begun name objects          a name up to these objects, `(name object ..`
--     ended text last             a name that has begun, with its last object and the bracket
use Rattle.std.specs.Prelude.{ℕ, List, ◌∷◌, ◌++◌, map, flat_map, codes}
use Rattle.ppddl_model.specs.declared.tree.Action.{Action}
use Rattle.ppddl_model.specs.declared.tree.Param.{Param}
use Rattle.ppddl_model.specs.declared.tree.Task.{Task}
use Rattle.ppddl_model.specs.State.{Name}
use Rattle.ppddl_model.specs.Steps.{Instance}
use Rattle.task_instances.specs.facts.Facts.{table_of}
use Rattle.task_instances.specs.kept_rows.Kept.{binding_of_row}

abbrev pub variables_of : Action → List Name
variables_of a = map (λ (p : Param). p.name) a.params

abbrev pub instance_of_row : Task → Action → List ℕ → Instance
instance_of_row task a row = record { action = a; binding = binding_of_row (table_of task) a.params row }

pub record Names : Type 0 where
  pub task : Task
  pub action : Action

abbrev pub names_of : Task → Action → Names
names_of task a = record { task = task; action = a }

abbrev pub begun : Name → List Name → List ℕ
begun name objects = (40 ∷ name) ++ flat_map (λ object. 32 ∷ object) objects

abbrev pub ended : List ℕ → Name → List ℕ
ended text last = (text ++ (32 ∷ last)) ++ codes ")"
