-- What an instance does, as it is computed.
--     IsFormedAs w n a b base result    the result is the condition and the choices of an action, or the refusal of its choices, or want
--                                       of memory
--     refusal_of e                      a refusal of choices as one of the ground problem
--     IsFine task a                     an action whose variables are distinct and whose denominator is within its limit
use Rattle.std.specs.Prelude.{◌≡◌, ℕ, ◌≤◌, IsTrue, Result, Ok, Err}
use Rattle.ppddl_model.specs.declared.tree.Action.{Action}
use Rattle.ppddl_model.specs.declared.tree.Task.{Task}
use Rattle.ppddl_model.specs.Objects.{World, Binding}
use Rattle.ppddl_model.specs.Steps.{world}
use Rattle.ppddl_model.specs.WellFormed.{are_distinct}
use Rattle.ground_model.specs.declared.limits.TheConstants.{MOST_DENOMINATOR}
use Rattle.ground_meaning.specs.choices.Numbering.{Numbering, ground_condition}
use Rattle.ground_meaning.specs.choices.Joint.{den_of}
use Rattle.outcome_dist.specs.declared.lists.refusal.JointRefusal.{JointRefusal}
use Rattle.outcome_dist.specs.declared.lists.refusal.JointRefusal.TheVariants as joint
use Rattle.ground_meaning.specs.declared.refusals.limits.LimitCode.TheVariants as limit
use Rattle.ground_meaning.specs.declared.refusals.refusal.GroundRefusal.{GroundRefusal}
use Rattle.ground_meaning.specs.declared.refusals.refusal.GroundRefusal.TheVariants.{Limit, Memory}
use Rattle.outcome_dist.specs.Answers.{joint_or_refusal}
use Rattle.grounder.specs.instance_names.Names.{variables_of}
use Rattle.grounder.specs.declared.actions.forming.Formed.{Formed}

abbrev pub IsFormedAs : World → Numbering → Action → Binding → ℕ → Result Formed JointRefusal → Type 0
IsFormedAs w n a b base (Ok x) =
    (joint_or_refusal w n a.effect b base ≡ Ok (record { list = x.choices.list; den = x.choices.den }))
    × (x.condition ≡ ground_condition w n a.condition b)
IsFormedAs w n a b base (Err joint.Memory) = Unit {0}
IsFormedAs w n a b base (Err e) = joint_or_refusal w n a.effect b base ≡ Err e

abbrev pub refusal_of : JointRefusal → GroundRefusal
refusal_of joint.Choices = Limit limit.Choices
refusal_of joint.Denominator = Limit limit.Denominator
refusal_of joint.OutcomeCost = Limit limit.OutcomeCost
refusal_of joint.Memory = Memory

pub record IsFine (task : Task) (a : Action) : Type 0 where
  pub distinct : IsTrue (are_distinct (variables_of a))
  pub denominator : den_of (world task) a.effect ≤ MOST_DENOMINATOR
