-- The hash of a packed state. It is a choice of this project.
--     mixed h words          each word is taken in by `xor`, and the whole multiplied modulo 2^64
--     hash_of s              what the words of s come to from 0, its upper half folded onto the lower
use Rattle.std.specs.Prelude.{ℕ, ◌*◌, ◌/◌, ◌%◌, ◌^◌, bit_xor, List, [], ◌∷◌}
use Rattle.ground_model.specs.Packed.{State}

abbrev pub mixed : ℕ → List ℕ → ℕ
mixed h [] = h
mixed h (word ∷ more) = mixed (bit_xor h word * 11400714819323198485 % 2 ^ 64) more

abbrev pub folded : ℕ → ℕ
folded h = bit_xor h (h / 2 ^ 32)

abbrev pub hash_of : State → ℕ
hash_of s = folded (mixed 0 s)
