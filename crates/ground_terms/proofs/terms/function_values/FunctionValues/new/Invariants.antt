use Rattle.std.proofs.Common.{take}
use Rattle.ground_terms.specs.terms.Values.{AreValues}
use Rattle.ground_terms.proofs.terms.function_values.FunctionValues.new.Given as goal

abbrev pub invariant-loop-item : goal.invariant-loop-item
invariant-loop-item l = AreValues (take l.item-index l.items) l.numbers
