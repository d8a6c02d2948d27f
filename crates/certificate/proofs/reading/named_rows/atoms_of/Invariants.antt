use Rattle.std.proofs.Common.{◌≡◌, length}
use Rattle.certificate.specs.Decoding.{parts, atoms_of}
use Rattle.certificate.proofs.Atoms.{with_front}
use Rattle.certificate.proofs.reading.named_rows.atoms_of.Given as goal

abbrev pub invariant-loop-rest : goal.invariant-loop-rest
invariant-loop-rest l = with_front l.atoms.items (atoms_of (parts 41 l.rest)) ≡ atoms_of (parts 41 l.text)

abbrev pub decreases-loop-rest : goal.decreases-loop-rest
decreases-loop-rest l = length l.rest
