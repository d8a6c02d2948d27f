use Rattle.std.proofs.Common.{◌≡◌, ◌≤◌, Bool, length, drop, reverse}
use Rattle.std.specs.List.{list_all}
use Rattle.ppddl_model.specs.State.{GroundAtom}
use Rattle.ppddl_model.specs.Objects.{Binding, bindings}
use Rattle.ppddl_model.specs.Steps.{world}
use Rattle.task_instances.specs.quantified_atoms.Needed.{params_of}
use Rattle.task_instances.specs.quantified_atoms.Quantified.{passes}
use Rattle.task_instances.proofs.lemmas.quantified_atoms.MoreVariables.{pass}
use Rattle.task_instances.proofs.quantified_atoms.quantifying.under.Given as goal

abbrev pub decreases-loop-place : goal.decreases-loop-place
decreases-loop-place l = l.place

abbrev pub invariant-loop-place : goal.invariant-loop-place
invariant-loop-place l = record {
  within : l.place ≤ length l.variables;
  under :
      (f : GroundAtom → Bool) (b : Binding) → pass (world l.facts) l.atom f (reverse (params_of l.named.items)) b
      ≡ list_all (passes (world l.facts) f l.inner) (bindings (world l.facts) (drop l.place l.variables) b);
}
