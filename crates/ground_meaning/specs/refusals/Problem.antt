-- The ground problem of a task.
-- Source: grounding of PDDL tasks (Helmert 2009), with the joint choices of PPDDL 1.0's effects.
--     ground_action i      an instance as a ground action
--     ground_problem       its atoms, penalty, initial states, goal, and the kept instances in order as actions
use Rattle.std.specs.Prelude.{[], map}
use Rattle.ppddl_model.specs.declared.tree.Task.{Task}
use Rattle.ppddl_model.specs.Changing.{kept_instances}
use Rattle.ppddl_model.specs.Steps.{Instance, instance_name, Charges, world, base_cost}
use Rattle.ground_model.specs.declared.action.GroundAction.{GroundAction}
use Rattle.ground_model.specs.Ground.{Ground}
use Rattle.ground_meaning.specs.choices.Numbering.{ground_condition}
use Rattle.ground_meaning.specs.choices.Joint.{Joint, joint}
use Rattle.ground_meaning.specs.refusals.Atoms.{numbering_of}
use Rattle.ground_meaning.specs.refusals.Starts.{Starts, starts_of}

module _ (task : Task) (charges : Charges) where
  abbrev pub joint_of : Instance → Joint
  joint_of i = joint (world task) (numbering_of task) i.action.effect i.binding (base_cost task charges)

  abbrev pub ground_action : Instance → GroundAction
  ground_action i = record {
    name = instance_name i;
    condition = ground_condition (world task) (numbering_of task) i.action.condition i.binding;
    choices = (joint_of i).list;
    den = (joint_of i).den;
  }

  abbrev pub task_starts : Starts
  task_starts = starts_of (numbering_of task) task.problem.init

  abbrev pub ground_problem : Ground
  ground_problem = record {
    atoms = (numbering_of task).atoms;
    penalty = charges.penalty;
    starts = task_starts.list;
    start_den = task_starts.den;
    goal = ground_condition (world task) (numbering_of task) task.problem.goal [];
    actions = map ground_action (kept_instances task);
  }
