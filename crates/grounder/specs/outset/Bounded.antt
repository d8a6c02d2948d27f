-- Kept instances that are within their limits whatever their atoms are.
--     IsBelow task charges b is whole
--         the limits of all are those of these instances behind those that were counted, whose ground size is at
--         most what was counted
--     Leads task base a b next
--         behind those that were counted, those of the action lead to next, under all charges with this base cost
use Rattle.std.specs.Prelude.{◌≡◌, ◌≤◌, ℕ, List, ◌++◌, Result}
use Rattle.ppddl_model.specs.declared.tree.Action.{Action}
use Rattle.ppddl_model.specs.declared.tree.Task.{Task}
use Rattle.ppddl_model.specs.Steps.{Instance, Charges, base_cost}
use Rattle.ground_meaning.specs.declared.refusals.limits.LimitCode.{LimitCode}
use Rattle.ground_meaning.specs.refusals.Limits.{instances_within}
use Rattle.grounder.specs.outset.Walked.{instances_of}
use Rattle.grounder.specs.declared.outset.bounded.Bounded.{Bounded}

abbrev pub IsBelow : Task → Charges → Bounded → List Instance → Result ℕ LimitCode → Type 0
IsBelow task charges b is whole =
    (size : ℕ) × (size ≤ b.most) × (whole ≡ instances_within task charges b.instances size is)

abbrev pub Leads : Task → ℕ → Action → Bounded → Bounded → Type 0
Leads task base a b next =
    (charges : Charges) → base_cost task charges ≡ base → (rest : List Instance) (whole : Result ℕ LimitCode)
    → IsBelow task charges b (instances_of task a ++ rest) whole → IsBelow task charges next rest whole
