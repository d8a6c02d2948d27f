use Rattle.std.proofs.Common.{◌≡◌, ◌++◌, take}
use Rattle.std.specs.Prelude.{flat_map}
use Rattle.task_instances.specs.kept_rows.Stages.{conjuncts_of, conditions_of}
use Rattle.task_instances.proofs.kept_rows.stages.+add_conjuncts.Given as goal

abbrev pub decreases-add_conjuncts : goal.decreases-add_conjuncts
decreases-add_conjuncts l = goal.size-add_conjuncts l

abbrev pub invariant-loop-part : goal.invariant-loop-part
invariant-loop-part l =
    conditions_of l.conjuncts.items ≡ conditions_of l.fn.conjuncts.items ++ flat_map conjuncts_of (take l.part-index l.part-items)
