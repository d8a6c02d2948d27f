use Rattle.std.proofs.Common.{take}
use Rattle.certificate.specs.Content.{uses_atom}
use Rattle.certificate.specs.Used.{AreUses}
use Rattle.certificate.proofs.reading.used.used_atoms.Given as goal

abbrev pub invariant-loop-place : goal.invariant-loop-place
invariant-loop-place l = AreUses (uses_atom (take l.place l.rows)) l.fn.tables.atoms l.used.items
