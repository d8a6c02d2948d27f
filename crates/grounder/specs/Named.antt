-- By what the parts of a task are found while it is grounded.
--     AreNamesOf task x   the atoms by number, the facts, and the values of functions are those of the task
use Rattle.std.specs.Prelude.{◌≡◌}
use Rattle.ppddl_model.specs.declared.tree.Task.{Task}
use Rattle.ground_meaning.specs.refusals.Atoms.{numbering_of}
use Rattle.grounder.specs.declared.names.Names.{Names}

pub record AreNamesOf (task : Task) (x : Names) : Type 0 where
  pub atoms : x.atoms ≡ (numbering_of task).atoms
  pub facts : x.facts ≡ (numbering_of task).facts
  pub values : x.values ≡ task.problem.values
