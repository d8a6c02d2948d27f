-- Upper words: an upper value and the code of the action that supports it, in one number.
use Rattle.std.specs.Prelude.{ℕ, ◌+◌, ◌*◌, ◌/◌, ◌%◌}

abbrev pub word_of : ℕ → ℕ → ℕ
word_of value code = value * 65536 + code

abbrev pub value_of : ℕ → ℕ
value_of word = word / 65536

abbrev pub code_of : ℕ → ℕ
code_of word = word % 65536
