use Rattle.std.proofs.Common.{◌≡◌, ◌++◌, drop}
use Rattle.outcome_dist.specs.conditions.Bindings.{numbering_of}
use Rattle.grounder.specs.starts.Growing.{numbers_each}
use Rattle.grounder.proofs.starts.items.numbers_each.Given as goal

abbrev pub invariant-loop-atom : goal.invariant-loop-atom
invariant-loop-atom l =
    l.numbers.items ++ numbers_each (numbering_of l.within) (drop l.atom-index l.atoms) ≡ numbers_each (numbering_of l.within) l.atoms
