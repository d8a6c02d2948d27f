use Rattle.std.proofs.Common.{take}
use Rattle.ground_terms.specs.terms.Values.{AreLeast}
use Rattle.ground_terms.proofs.terms.least_values.LeastValues.new.Given as goal

abbrev pub invariant-loop-item : goal.invariant-loop-item
invariant-loop-item l = AreLeast (take l.item-index l.items) l.numbers
