use Rattle.std.proofs.Common.{◌≡◌, ◌<◌, ℕ, length}
use Rattle.std.specs.Prelude.{get_or}
use Rattle.policy_walk.proofs.walking.copy_words.Given as goal

abbrev pub invariant-loop-place : goal.invariant-loop-place
invariant-loop-place l =
    (length l.into ≡ length l.words)
    × ((k : ℕ) → k < l.place → get_or l.into k 0 ≡ get_or l.words k 0)
