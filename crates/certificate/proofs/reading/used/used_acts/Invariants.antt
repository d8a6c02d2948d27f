use Rattle.std.proofs.Common.{take}
use Rattle.certificate.specs.Content.{uses_act}
use Rattle.certificate.specs.Used.{AreUses}
use Rattle.certificate.proofs.reading.used.used_acts.Given as goal

abbrev pub invariant-loop-place : goal.invariant-loop-place
invariant-loop-place l = AreUses (uses_act (take l.place l.rows)) l.fn.tables.acts l.used.items
