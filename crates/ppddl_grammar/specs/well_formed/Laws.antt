-- What is read of whole texts, as statements.
--     TasksAreWellFormed       a task that texts spell is well-formed
--     TasksHaveLowerNames      its names are in lower case
use Rattle.std.specs.Prelude.{◌≡◌, ℕ, List, Option, Ok}
use Rattle.ppddl_model.specs.declared.tree.Task.{Task}
use Rattle.ppddl_model.specs.WellFormed.{IsWellFormed}
use Rattle.ppddl_reader.specs.tasks.Texts.{task_of}
use Rattle.ppddl_grammar.specs.well_formed.Names.{HasLowerNames}

abbrev pub TasksAreWellFormed : Type 0
TasksAreWellFormed = (first : List ℕ) (second : Option (List ℕ)) (task : Task) → task_of first second ≡ Ok task → IsWellFormed task

abbrev pub TasksHaveLowerNames : Type 0
TasksHaveLowerNames = (first : List ℕ) (second : Option (List ℕ)) (task : Task) → task_of first second ≡ Ok task → HasLowerNames task
