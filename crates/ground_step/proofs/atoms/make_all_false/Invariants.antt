use Rattle.std.proofs.Common.{◌≡◌, ◌<◌, ℕ, length}
use Rattle.std.specs.Prelude.{get_or}
use Rattle.ground_step.proofs.atoms.make_all_false.Given as goal

abbrev pub invariant-loop-place : goal.invariant-loop-place
invariant-loop-place l =
    (length l.state ≡ length l.initial.state) × (l.place-end ≡ length l.initial.state)
    × ((k : ℕ) → k < l.place → get_or l.state k 0 ≡ 0)
