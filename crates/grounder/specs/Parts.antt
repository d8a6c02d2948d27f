-- The parts of the ground problem of a task.
--     IsEndOf task x             its goal and its initial states
--     ArePartsOf task charges x  all but the penalty
use Rattle.std.specs.Prelude.{◌≡◌, [], map}
use Rattle.ppddl_model.specs.declared.tree.Task.{Task}
use Rattle.ppddl_model.specs.Changing.{kept_instances}
use Rattle.ppddl_model.specs.Steps.{Charges, world}
use Rattle.ground_meaning.specs.choices.Numbering.{ground_condition}
use Rattle.ground_meaning.specs.refusals.Atoms.{numbering_of}
use Rattle.ground_meaning.specs.refusals.Starts.{starts_of}
use Rattle.ground_meaning.specs.refusals.Problem.{ground_action}
use Rattle.grounder.specs.declared.parts.Ends.{Ends}
use Rattle.grounder.specs.declared.parts.Parts.{Parts}

pub record IsEndOf (task : Task) (x : Ends) : Type 0 where
  pub goal : x.goal ≡ ground_condition (world task) (numbering_of task) task.problem.goal []
  pub starts : x.starts.list ≡ (starts_of (numbering_of task) task.problem.init).list
  pub start_den : x.starts.den ≡ (starts_of (numbering_of task) task.problem.init).den

pub record ArePartsOf (task : Task) (charges : Charges) (x : Parts) : Type 0 where
  pub atoms : x.atoms ≡ (numbering_of task).atoms
  pub ends : IsEndOf task x.ends
  pub actions : x.actions ≡ map (ground_action task charges) (kept_instances task)
