-- Marks of rows of numbers: a row without a mark is not among those that have one.
--     mixed h row        each number is taken in by `xor`, and the whole multiplied modulo 2^64
--     mark_of row        the place of a row's mark: the upper 18 bits of what it comes to
--     IsMarked marks row the row has its mark
--     AreMarked marks rows   there are 2^18 marks, and each row has its own
use Rattle.std.specs.Prelude.{◌≡◌, ℕ, ◌*◌, ◌/◌, ◌%◌, ◌^◌, bit_xor, Bool, true, false, All, List, [], ◌∷◌, length, get_or}

abbrev pub mixed : ℕ → List ℕ → ℕ
mixed h [] = h
mixed h (number ∷ more) = mixed (bit_xor h number * 11400714819323198485 % 2 ^ 64) more

abbrev pub mark_of : List ℕ → ℕ
mark_of row = mixed 0 row / 2 ^ 46

abbrev pub IsMarked : List Bool → List ℕ → Type 0
IsMarked marks row = get_or marks (mark_of row) false ≡ true

pub record AreMarked (marks : List Bool) (rows : List (List ℕ)) : Type 0 where
  pub count : length marks ≡ 262144
  pub each : All (IsMarked marks) rows
