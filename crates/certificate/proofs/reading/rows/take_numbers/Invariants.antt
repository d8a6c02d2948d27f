use Rattle.std.proofs.Common.{◌≡◌, length}
use Rattle.certificate.specs.Decoding.{parts, spaced_places}
use Rattle.certificate.proofs.Fronts.{with_front}
use Rattle.certificate.proofs.reading.rows.take_numbers.Given as goal

abbrev pub invariant-loop-rest : goal.invariant-loop-rest
invariant-loop-rest l = with_front l.numbers.items (spaced_places l.atoms (parts 32 l.rest)) ≡ spaced_places l.atoms (parts 32 l.text)

abbrev pub decreases-loop-rest : goal.decreases-loop-rest
decreases-loop-rest l = length l.rest
