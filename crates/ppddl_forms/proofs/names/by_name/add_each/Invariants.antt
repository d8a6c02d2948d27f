use Rattle.std.proofs.Common.{◌≡◌, ◌++◌, take, length}
use Rattle.ppddl_forms.specs.names.Places.{ArePlaces}
use Rattle.ppddl_forms.proofs.names.by_name.add_each.Given as goal

abbrev pub invariant-loop-item : goal.invariant-loop-item
invariant-loop-item g l =
    (l.items.items ≡ l.initial.items.items ++ take l.item-index l.more) × ArePlaces g.T.Named.name_of l.items.items l.places
    × (take (length l.initial.places) l.places ≡ l.initial.places)
