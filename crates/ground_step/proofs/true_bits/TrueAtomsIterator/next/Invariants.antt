use Rattle.std.proofs.Common.{◌≡◌, ◌*◌, ◌^◌, ◌+◌, ◌≤◌, ◌++◌, length}
use Rattle.ground_step.specs.Atoms.{word_atoms, words_atoms}
use Rattle.ground_step.proofs.true_bits.TrueAtomsIterator.next.Given as goal

abbrev pub invariant-loop-self : goal.invariant-loop-self
invariant-loop-self l = record {
  numbers_fit : l.self-inside.base + 64 * (length l.self-inside.words.now + 1) ≤ 2 ^ 32;
  left : word_atoms l.self-inside.base l.self-inside.word ++ words_atoms (l.self-inside.base + 64) l.self-inside.words.now
      ≡ word_atoms l.initial.self-inside.base l.initial.self-inside.word
      ++ words_atoms (l.initial.self-inside.base + 64) l.initial.self-inside.words.now;
}

abbrev pub decreases-loop-self : goal.decreases-loop-self
decreases-loop-self l = length l.self-inside.words.now
