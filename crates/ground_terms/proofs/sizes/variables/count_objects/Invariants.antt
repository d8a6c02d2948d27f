use Rattle.std.proofs.Common.{◌≡◌, ◌≤◌, take, filter, length}
use Rattle.ground_terms.proofs.lemmas.sizes.OfTypes.{of_any}
use Rattle.ground_terms.proofs.sizes.variables.count_objects.Given as goal

abbrev pub invariant-loop-object : goal.invariant-loop-object
invariant-loop-object l = record {
  passed : l.count ≤ l.object-index;
  chosen : l.count ≡ length (filter (of_any l.table l.kinds) (take l.object-index l.object-items));
}
