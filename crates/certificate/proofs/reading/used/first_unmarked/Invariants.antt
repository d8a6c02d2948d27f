use Rattle.std.proofs.Common.{◌≡◌, ◌-◌, length, ℕ, Bool}
use Rattle.certificate.specs.Used.{AreUses}
use Rattle.certificate.specs.Reading.{first_unused}
use Rattle.certificate.proofs.reading.used.first_unmarked.Given as goal

abbrev pub invariant-loop-place : goal.invariant-loop-place
invariant-loop-place l = (test : ℕ → Bool) → AreUses test (length l.fn.used) l.fn.used → first_unused test l.place (length l.fn.used - l.place) ≡ first_unused test 0 (length l.fn.used)
