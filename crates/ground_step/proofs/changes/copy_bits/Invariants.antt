use Rattle.std.proofs.Common.{◌≡◌, ◌<◌, ℕ, length}
use Rattle.std.specs.Prelude.{get_or}
use Rattle.ground_step.proofs.changes.copy_bits.Given as goal

abbrev pub invariant-loop-place : goal.invariant-loop-place
invariant-loop-place l =
    (length l.into ≡ length l.word-items) × (l.word-items ≡ l.from)
    × ((k : ℕ) → k < l.place → get_or l.into k 0 ≡ get_or l.word-items k 0)
