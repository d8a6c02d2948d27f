-- States by their atoms.
--     state_of atoms n       the state of n words in which these atoms are true and no other
--     true_atoms s           the atoms that are true in s, in rising order
--     word_atoms, words_atoms
--                            those of one word, or of more, whose first bit is atom `base`
use Rattle.std.specs.Prelude.{ℕ, ◌+◌, ◌-◌, ◌*◌, nat_eq, List, [], ◌∷◌, ◌++◌, length, filter}
use Rattle.std.specs.List.{range_with_len}
use Rattle.std.specs.Int.{bit_at}
use Rattle.ground_model.specs.Packed.{State, has_bit, packed}
use Rattle.ground_model.specs.Choices.{is_member}

abbrev pub state_of : List ℕ → ℕ → State
state_of atoms n = packed (is_member atoms) n

abbrev pub true_atoms : State → List ℕ
true_atoms s = filter (has_bit s) (range_with_len 0 (64 * length s))

unfoldable pub word_atoms : ℕ → ℕ → List ℕ
word_atoms base word = filter (λ q. nat_eq (bit_at word (q - base)) 1) (range_with_len base 64)

unfoldable pub words_atoms : ℕ → List ℕ → List ℕ
words_atoms base [] = []
words_atoms base (word ∷ more) = word_atoms base word ++ words_atoms (base + 64) more
