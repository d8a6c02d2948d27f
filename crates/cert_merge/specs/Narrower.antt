-- The narrower of two readings of all states: at each state the greater lower and the smaller upper value.
--     greater low low'           at each state the greater of two lower values
--     smaller high high'         at each state the smaller of two upper values
--     act_of_smaller high high' act act'
--                                at each state the act of the smaller upper value; of equal ones the first's
use Rattle.std.specs.Prelude.{ℕ, max, min, nat_le, cond, Option}

module _ {S : Type 0} where
  abbrev pub greater : (S → ℕ) → (S → ℕ) → S → ℕ
  greater low low' s = max (low s) (low' s)

  abbrev pub smaller : (S → ℕ) → (S → ℕ) → S → ℕ
  smaller high high' s = min (high s) (high' s)

  abbrev pub act_of_smaller : {A : Type 0} → (S → ℕ) → (S → ℕ) → (S → Option A) → (S → Option A) → S → Option A
  act_of_smaller high high' act act' s = cond (nat_le (high s) (high' s)) (act s) (act' s)
