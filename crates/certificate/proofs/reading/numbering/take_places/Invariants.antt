use Rattle.std.proofs.Common.{◌≡◌, take, map}
use Rattle.certificate.specs.Numbering.{place_of}
use Rattle.certificate.proofs.reading.numbering.take_places.Given as goal

abbrev pub invariant-loop-text : goal.invariant-loop-text
invariant-loop-text l = l.numbers.items ≡ map (place_of l.table) (take l.text-index l.texts)
