-- Amounts as the program prints them.
--     digit n place      the decimal digit of n at a place: 1, 10, 100 and so on
--     six_digits n       the last six digits of n, with zeros in front
--     units v            micro-units as units with exactly six decimals, as `0.700000`
use Rattle.std.specs.Prelude.{ℕ, ◌+◌, ◌/◌, ◌%◌, List, [], ◌∷◌, ◌++◌, codes, decimal}

abbrev pub digit : ℕ → ℕ → ℕ
digit n place = 48 + n / place % 10

abbrev pub six_digits : ℕ → List ℕ
six_digits n =
    digit n 100000 ∷ digit n 10000 ∷ digit n 1000 ∷ digit n 100 ∷ digit n 10 ∷ digit n 1 ∷ []

abbrev pub units : ℕ → List ℕ
units v = decimal (v / 1000000) ++ codes "." ++ six_digits (v % 1000000)
