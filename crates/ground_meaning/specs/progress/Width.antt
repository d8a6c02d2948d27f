-- How wide an interval may be.
--     most_above penalty c m low       c * 2 ^ m times the number that is above low by penalty / 2 ^ m + 2 * penalty / c
--     IsNarrow penalty c m low high    high is at most that number; it says nothing for c = 0
use Rattle.std.specs.Prelude.{ℕ, ◌+◌, ◌*◌, ◌^◌, ◌≤◌}

abbrev pub most_above : ℕ → ℕ → ℕ → ℕ → ℕ
most_above penalty c m low = c * 2 ^ m * low + c * penalty + 2 ^ (m + 1) * penalty

abbrev pub IsNarrow : ℕ → ℕ → ℕ → ℕ → ℕ → Type 0
IsNarrow penalty c m low high = c * 2 ^ m * high ≤ most_above penalty c m low
