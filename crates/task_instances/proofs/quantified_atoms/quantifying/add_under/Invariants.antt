use Rattle.std.proofs.Common.{◌≡◌, Bool, ◌&&◌, take}
use Rattle.std.specs.List.{list_all}
use Rattle.ppddl_model.specs.State.{GroundAtom}
use Rattle.ppddl_model.specs.Objects.{Binding, bindings}
use Rattle.ppddl_model.specs.Steps.{world}
use Rattle.task_instances.specs.quantified_atoms.Quantified.{all_pass}
use Rattle.task_instances.proofs.quantified_atoms.quantifying.add_under.Given as goal

abbrev pub invariant-loop-quantified : goal.invariant-loop-quantified
invariant-loop-quantified l =
    (f : GroundAtom → Bool) (b : Binding) → all_pass (world l.facts) f l.atoms.items b
    ≡ (all_pass (world l.facts) f l.fn.atoms.items b
    && list_all (all_pass (world l.facts) f (take l.quantified-index l.inner)) (bindings (world l.facts) l.variables b))
