use Rattle.std.proofs.Common.{◌≡◌, ◌≤◌, ◌-◌, ◌++◌, length}
use Rattle.std.specs.Prelude.{replicate}
use Rattle.ppddl_forms.proofs.variables.give_types.Given as goal

abbrev pub decreases-loop-kinds : goal.decreases-loop-kinds
decreases-loop-kinds l = l.count - length l.kinds.items

abbrev pub invariant-loop-kinds : goal.invariant-loop-kinds
invariant-loop-kinds l = record {
  given : l.kinds.items ++ replicate (l.count - length l.kinds.items) l.given ≡ l.fn.kinds.items ++ replicate (l.count - length l.fn.kinds.items) l.given;
  within : length l.kinds.items ≤ l.count;
}
