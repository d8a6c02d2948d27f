use Rattle.std.proofs.Common.{◌≡◌, map, take}
use Rattle.cert_merge.specs.Tables.{place_in}
use Rattle.cert_merge.proofs.numbering.take_places.Given as goal

abbrev pub invariant-loop-atom : goal.invariant-loop-atom
invariant-loop-atom l = l.numbers.items ≡ map (place_in l.places) (take l.atom-index l.atoms)
