use Rattle.std.proofs.Common.{◌≡◌, drop}
use Rattle.std.specs.List.{list_any}
use Rattle.task_instances.specs.quantified_atoms.Needed.{hides, params_of}
use Rattle.task_instances.proofs.quantified_atoms.hiding.is_hidden.Given as goal

abbrev pub invariant-loop-param : goal.invariant-loop-param
invariant-loop-param l =
    list_any (hides l.variable) (params_of (drop l.param-index l.params)) ≡ list_any (hides l.variable) (params_of l.params)
