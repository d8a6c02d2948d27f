-- Counts that stop at what 64 bits hold, so that they compare with every limit below that as the whole counts do.
--     counted n      n, or the greatest number of 64 bits where n is above it
use Rattle.std.specs.Prelude.{ℕ, ◌-◌, ◌^◌, min}

abbrev pub counted : ℕ → ℕ
counted n = min n (2 ^ 64 - 1)
