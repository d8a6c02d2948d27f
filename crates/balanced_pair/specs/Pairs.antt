-- Pairs: what is said of every state before any row of a certificate is read, and the rows of a certificate over it.
-- A certificate without a pair says of a state without a row: at least 0, at most the penalty, by giving up. That is one such pair.
--     Pair S A                 readings of every state: a lower value, an upper value, and an act (None gives up)
--     IsSubSolution p low      each lower value follows from those of the next states
--     IsSuperSolution p high act
--                              each upper value follows from those of the next states, with its act, and is 0 at a goal
--     IsBalancedPair p pair    the readings are balanced: the lower values are a sub-solution and the upper ones, with the acts, a
--                              super-solution
--     plain p                  where plain rounded iteration begins: 0; the penalty, or 0 at a goal; giving up
--     read p same pair rows    rows over a pair: the greater of the row's lower value and the pair's; 0 at a goal, else the smaller of
--                              the upper values, with its act; a state without a row has what the pair says
--     IsRowFrom p readings row the row's values follow from these readings of the next states
--     IsCertificateOver p same pair starts start_den c
--                              the penalty is that of the process, each row follows from the readings over the pair, and the interval
--                              is that of the starts
-- Source: sub- and super-solutions of the Bellman equation, between which its solution lies (Bertsekas, Dynamic Programming and Optimal
-- Control).
use Rattle.std.specs.Prelude.{◌≡◌, ℕ, leb, min, max, Bool, true, cond, List, Option, Some, None, Contains}
use Rattle.decision_process.specs.Process.{Process, Start}
use Rattle.decision_process.specs.Following.{IsLowerFrom, IsUpperFrom}
use Rattle.decision_process.specs.Rounded.{down, up}
use Rattle.decision_process.specs.Balanced.{IsBalanced, IsInterval}
use Rattle.decision_process.specs.Readings.{Row, Certificate, row_at, action_of}

pub record Pair (S A : Type 0) : Type 0 where
  pub low : S → ℕ
  pub high : S → ℕ
  pub act : S → Option A

module _ {S A : Type 0} (p : Process S A) where
  abbrev pub IsSubSolution : (S → ℕ) → Type 0
  IsSubSolution low = (s : S) → IsLowerFrom p low s (low s)

  pub record IsSuperSolution (high : S → ℕ) (act : S → Option A) : Type 0 where
    pub at_goal : (s : S) → p.goal s ≡ true → high s ≡ 0
    pub follows : (s : S) → IsUpperFrom p high s (act s) (high s)

  abbrev pub IsBalancedPair : Pair S A → Type 0
  IsBalancedPair pair = IsBalanced p pair.low pair.high pair.act

  abbrev pub plain : Pair S A
  plain = record { low = down p 0; high = up p 0; act = λ s. None }

  module _ (same : S → S → Bool) (pair : Pair S A) where
    abbrev pub low_over : List (Row S A) → S → ℕ
    low_over rows s =
        elim (row_at same rows s) [ None ↦ pair.low s | Some row ↦ max row.lower (pair.low s) ]

    abbrev pub high_over : List (Row S A) → S → ℕ
    high_over rows s =
        cond (p.goal s) 0
        (elim (row_at same rows s) [ None ↦ pair.high s | Some row ↦ min row.upper (pair.high s) ])

    abbrev pub act_over : List (Row S A) → S → Option A
    act_over rows s =
        elim (row_at same rows s) [
          | None ↦ pair.act s
          | Some row ↦ cond (leb row.upper (pair.high s)) (action_of row.act) (pair.act s)
        ]

    abbrev pub read : List (Row S A) → Pair S A
    read rows = record { low = low_over rows; high = high_over rows; act = act_over rows }

  pub record IsRowFrom (readings : Pair S A) (row : Row S A) : Type 0 where
    pub lower : IsLowerFrom p readings.low row.state row.lower
    pub upper : IsUpperFrom p readings.high row.state (action_of row.act) row.upper

  module _ (same : S → S → Bool) (pair : Pair S A) (starts : List (Start S)) (start_den : ℕ) where
    pub record IsCertificateOver (c : Certificate S A) : Type 0 where
      pub penalty : c.penalty ≡ p.penalty
      pub rows : (row : Row S A) → Contains c.rows row → IsRowFrom (read same pair c.rows) row
      pub interval : IsInterval (low_over same pair c.rows) (high_over same pair c.rows)
          starts start_den c.lower c.upper
