use Rattle.std.proofs.Common.{nat_eq, take}
use Rattle.std.specs.List.{list_any}
use Rattle.ground_terms.specs.sizes.Flags.{IsMarkedBy}
use Rattle.ground_terms.proofs.sizes.variables.mark.Given as goal

abbrev pub invariant-loop-object : goal.invariant-loop-object
invariant-loop-object l = IsMarkedBy (λ i. list_any (λ o. nat_eq o i) (take l.object-index l.objects)) l.initial.flags l.flags
