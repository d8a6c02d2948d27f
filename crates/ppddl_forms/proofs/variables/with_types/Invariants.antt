use Rattle.std.proofs.Common.{◌≡◌, ◌++◌}
use Rattle.ppddl_forms.specs.Variables.{params_of}
use Rattle.ppddl_forms.proofs.variables.with_types.Given as goal

abbrev pub invariant-loop-name : goal.invariant-loop-name
invariant-loop-name l = l.params.items ++ params_of l.name-iterator l.kinds.rest.items ≡ params_of l.fn.names.keys l.fn.kinds.items
