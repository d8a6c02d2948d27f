-- The joint choices of an effect, or why it has none within the limits.
--     joint_or_refusal w n e b base   the joint choices, or the first limit that is exceeded: that on the
--                                     denominator, then on the choices, then on their costs
--     Answers result answer           the result is the answer, or want of memory
use Rattle.std.specs.Prelude.{◌≡◌, ℕ, nat_lt, if◌then◌else◌, Result, Ok, Err}
use Rattle.std.specs.List.{list_any}
use Rattle.ppddl_model.specs.declared.tree.Effect.{Effect}
use Rattle.ppddl_model.specs.Objects.{World, Binding}
use Rattle.ground_model.specs.declared.limits.TheConstants.{MOST_CHOICES, MOST_DENOMINATOR}
use Rattle.ground_meaning.specs.choices.Numbering.{Numbering}
use Rattle.ground_meaning.specs.choices.Joint.{Joint, joint, den_of, charged_choices}
use Rattle.ground_meaning.specs.choices.Limits.{widest, is_dear}
use Rattle.outcome_dist.specs.declared.lists.refusal.JointRefusal.{JointRefusal}
use Rattle.outcome_dist.specs.declared.lists.refusal.JointRefusal.TheVariants as refusal
use Rattle.outcome_dist.specs.declared.choices.Choices.{Choices}

abbrev pub joint_or_refusal : World → Numbering → Effect → Binding → ℕ → Result Joint JointRefusal
joint_or_refusal w n e b base =
    if nat_lt MOST_DENOMINATOR (den_of w e) then Err refusal.Denominator
    else if nat_lt MOST_CHOICES (widest w n e b) then Err refusal.Choices
    else if list_any is_dear (charged_choices w n e b base) then Err refusal.OutcomeCost
    else Ok (joint w n e b base)

abbrev pub Answers : Result Choices JointRefusal → Result Joint JointRefusal → Type 0
Answers (Ok x) answer = answer ≡ Ok (record { list = x.list; den = x.den })
Answers (Err refusal.Memory) answer = Unit {0}
Answers (Err e) answer = answer ≡ Err e
