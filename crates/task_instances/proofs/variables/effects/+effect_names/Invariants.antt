use Rattle.std.proofs.Common.{◌≡◌, drop}
use Rattle.std.specs.List.{list_any}
use Rattle.ppddl_model.specs.declared.tree.Branch.{Branch}
use Rattle.task_instances.specs.variables.Named.{effect_names}
use Rattle.task_instances.proofs.variables.effects.+effect_names.Given as goal

abbrev pub decreases-effect_names : goal.decreases-effect_names
decreases-effect_names l = goal.size-effect_names l

abbrev pub invariant-loop-part : goal.invariant-loop-part
invariant-loop-part l = list_any (effect_names l.variable) (drop l.part-index l.part-items) ≡ effect_names l.variable l.effect

abbrev pub invariant-loop-branch : goal.invariant-loop-branch
invariant-loop-branch l =
    list_any (λ (x : Branch). effect_names l.variable x.effect) (drop l.branch-index l.branch-items) ≡ effect_names l.variable l.effect
