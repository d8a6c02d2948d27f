use Rattle.std.proofs.Common.{◌≡◌, Bool, ◌&&◌, ◌+◌, ◌*◌, take}
use Rattle.std.specs.List.{list_all}
use Rattle.plain_list.specs.weighted.Mean.{total}
use Rattle.ppddl_model.specs.State.{GroundAtom}
use Rattle.ppddl_model.specs.Objects.{Binding}
use Rattle.ppddl_model.specs.Steps.{world}
use Rattle.task_instances.proofs.lemmas.facts.Mass.{mass, branch_mass}
use Rattle.task_instances.specs.quantified_atoms.Quantified.{all_pass, part_pass, branch_pass}
use Rattle.task_instances.proofs.quantified_atoms.collecting.+collecting.Given as goal

abbrev pub decreases-add_atoms : goal.decreases-add_atoms
decreases-add_atoms l = 3 * mass l.effect.now

abbrev pub decreases-add_each : goal.decreases-add_each
decreases-add_each l = 3 * total mass l.parts.now + 1

abbrev pub decreases-add_branches : goal.decreases-add_branches
decreases-add_branches l = 3 * total branch_mass l.branches.now + 1

abbrev pub invariant-add_each-loop-part : goal.invariant-add_each-loop-part
invariant-add_each-loop-part l =
    (f : GroundAtom → Bool) (b : Binding) → all_pass (world l.facts) f l.atoms.items b
    ≡ (all_pass (world l.facts) f l.fn.atoms.items b && list_all (part_pass (world l.facts) l.kind f b) (take l.part-index l.parts))

abbrev pub invariant-add_branches-loop-branch : goal.invariant-add_branches-loop-branch
invariant-add_branches-loop-branch l =
    (f : GroundAtom → Bool) (b : Binding) → all_pass (world l.facts) f l.atoms.items b
    ≡ (all_pass (world l.facts) f l.fn.atoms.items b && list_all (branch_pass (world l.facts) l.kind f b) (take l.branch-index l.branches))
