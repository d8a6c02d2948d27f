-- The first words are written.
use Rattle.std.proofs.Common.{◌≡◌, ℕ, Some, map, take}
use Rattle.core_run.proofs.beginning.written_words.Given as goal

abbrev pub invariant-loop-word : goal.invariant-loop-word
invariant-loop-word l = l.words.items ≡ map (λ (word : ℕ). Some word) (take l.word-index l.word-items)
