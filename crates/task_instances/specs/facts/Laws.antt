-- What is known of the conditions of a task, as a statement.
--     KnownByTable    what is known of a condition, by the table of a task and any list of what may change, is what is known in the task
use Rattle.std.specs.Prelude.{◌≡◌, List}
use Rattle.ppddl_model.specs.declared.tree.Condition.{Condition}
use Rattle.ppddl_model.specs.declared.tree.Task.{Task}
use Rattle.ppddl_model.specs.State.{Name}
use Rattle.ppddl_model.specs.Objects.{Binding}
use Rattle.ppddl_model.specs.Changing.{known_of}
use Rattle.task_instances.specs.known_conditions.Known.{known_in}
use Rattle.task_instances.specs.facts.Facts.{table_of, AreChanging}

abbrev pub KnownByTable : Type 0
KnownByTable = (task : Task) (names : List Name) → AreChanging names task → (c : Condition) (b : Binding)
    → known_in (table_of task) names task.problem.init c b ≡ known_of task c b
