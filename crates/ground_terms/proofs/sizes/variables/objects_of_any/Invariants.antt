use Rattle.std.proofs.Common.{◌≡◌, take, filter}
use Rattle.ground_terms.proofs.lemmas.sizes.OfTypes.{of_any}
use Rattle.ground_terms.proofs.sizes.variables.objects_of_any.Given as goal

abbrev pub invariant-loop-object : goal.invariant-loop-object
invariant-loop-object l = l.objects.items ≡ filter (of_any l.table l.kinds) (take l.object-index l.object-items)
