-- The task of whole texts and the relation are one language, as statements.
--     TaskIsDerived, TaskIsAccepted    a task is given exactly where the texts spell it
--     OneTaskIsRead                    the texts spell at most one
use Rattle.std.specs.Prelude.{◌≡◌, ℕ, List, Option, Ok}
use Rattle.ppddl_model.specs.declared.tree.Task.{Task}
use Rattle.ppddl_reader.specs.tasks.Texts.{task_of}
use Rattle.ppddl_grammar.specs.texts.Texts.{Reads}

abbrev pub TaskIsDerived : Type 0
TaskIsDerived = (first : List ℕ) (second : Option (List ℕ)) (task : Task) → task_of first second ≡ Ok task → Reads first second task

abbrev pub TaskIsAccepted : Type 0
TaskIsAccepted = (first : List ℕ) (second : Option (List ℕ)) (task : Task) → Reads first second task → task_of first second ≡ Ok task

abbrev pub OneTaskIsRead : Type 0
OneTaskIsRead = (first : List ℕ) (second : Option (List ℕ)) (s t : Task) → Reads first second s → Reads first second t → s ≡ t
