use Rattle.std.proofs.Common.{◌≡◌, ◌*◌, [], length, drop}
use Rattle.ppddl_model.specs.Objects.{bindings}
use Rattle.ground_terms.specs.sizes.Counted.{counted}
use Rattle.ground_terms.proofs.sizes.variables.count_bindings.Given as goal

abbrev pub invariant-loop-variable : goal.invariant-loop-variable
invariant-loop-variable l = record {
  small : counted l.count ≡ l.count;
  rest :
      counted (l.count * length (bindings l.table (drop l.variable-index l.variables) []))
      ≡ counted (length (bindings l.table l.variables []));
}
