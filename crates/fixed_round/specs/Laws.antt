-- What upper words, their values and their codes are to each other, for numbers of every size.
use Rattle.std.specs.Prelude.{◌≡◌, ℕ, ◌<◌, ◌⊎◌, ◌↔◌}
use Rattle.fixed_round.specs.Words.{word_of, value_of, code_of}

-- a word has the value and the code that it was made of
abbrev pub PartsAreExact : Type 0
PartsAreExact = (value code : ℕ) → code < 65536
    → (value_of (word_of value code) ≡ value) × (code_of (word_of value code) ≡ code)

-- a word is made of its value and its code
abbrev pub WordsAreExact : Type 0
WordsAreExact = (word : ℕ)
    → (word_of (value_of word) (code_of word) ≡ word) × (code_of word < 65536)

-- words are ordered by value and then by code
abbrev pub OrderIsByValue : Type 0
OrderIsByValue = (a b : ℕ) →
    (a < b) ↔ ((value_of a < value_of b) ⊎ ((value_of a ≡ value_of b) × (code_of a < code_of b)))
