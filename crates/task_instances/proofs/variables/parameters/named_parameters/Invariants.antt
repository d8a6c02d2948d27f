use Rattle.std.proofs.Common.{◌≡◌, map, take}
use Rattle.ppddl_model.specs.declared.tree.Param.{Param}
use Rattle.task_instances.specs.variables.Named.{action_names}
use Rattle.task_instances.proofs.variables.parameters.named_parameters.Given as goal

abbrev pub invariant-loop-param : goal.invariant-loop-param
invariant-loop-param l = l.named.items ≡ map (λ (p : Param). action_names p.name l.action) (take l.param-index l.params)
