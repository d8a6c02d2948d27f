-- Why an effect has no joint choices.
--     number_of e        the number of a refusal; want of memory has none
--     IsTooDear e cs     e is want of memory, or the refusal of a choice that costs too much, and one does
--     IsTooMany e cs     e is want of memory, or the refusal of a list that is too long, and this is one
use Rattle.std.specs.Prelude.{◌≡◌, ℕ, ◌<◌, true, List, length, Option, Some, None}
use Rattle.std.specs.List.{list_any}
use Rattle.ground_model.specs.declared.action.Choice.{Choice}
use Rattle.ground_model.specs.declared.limits.TheConstants.{MOST_CHOICES}
use Rattle.ground_meaning.specs.choices.Limits.{is_dear}
use Rattle.outcome_dist.specs.declared.lists.refusal.JointRefusal.{JointRefusal}
use Rattle.outcome_dist.specs.declared.lists.refusal.JointRefusal.TheVariants.{Choices, Denominator}
use Rattle.outcome_dist.specs.declared.lists.refusal.JointRefusal.TheVariants.{OutcomeCost, Memory}

abbrev pub number_of : JointRefusal → Option ℕ
number_of Choices = Some 20
number_of Denominator = Some 21
number_of OutcomeCost = Some 27
number_of Memory = None

abbrev pub IsTooMany : JointRefusal → List Choice → Type 0
IsTooMany Choices cs = MOST_CHOICES < length cs
IsTooMany Memory cs = Unit {0}
IsTooMany _ cs = ⊥

abbrev pub IsTooDear : JointRefusal → List Choice → Type 0
IsTooDear OutcomeCost cs = list_any is_dear cs ≡ true
IsTooDear Memory cs = Unit {0}
IsTooDear _ cs = ⊥
