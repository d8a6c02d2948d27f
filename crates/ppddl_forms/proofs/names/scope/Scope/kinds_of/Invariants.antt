use Rattle.std.proofs.Common.{◌≡◌, reverse}
use Rattle.std.specs.Iterator.Adapters.{rev_source}
use Rattle.std.specs.Slice.Iter.{iter_rest}
use Rattle.ppddl_forms.specs.names.Sight.{kinds_in}
use Rattle.ppddl_forms.proofs.names.scope.Scope.kinds_of.Given as goal

abbrev pub invariant-loop-list : goal.invariant-loop-list
invariant-loop-list l =
    (goal.iterator-loop-list).can_next l.list-iterator × (goal.iterator-loop-list).is_finite l.list-iterator
    × (kinds_in l.self l.variable ≡ kinds_in (reverse (iter_rest (rev_source l.list-iterator))) l.variable)
