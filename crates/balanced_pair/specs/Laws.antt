-- The laws of balanced pairs, as statements.
--     HalvesAreBalanced         readings are balanced exactly where the lower values are a sub-solution and the upper ones, with the
--                               acts, a super-solution
--     PlainIsBalanced           what is said of a state without a row where there is no pair is a balanced pair
--     RowsOverPairAreBalanced   rows over a balanced pair, each of which follows, are a balanced pair again
--     CertificateOverEncloses   and the interval of such a certificate encloses the cost, with its acts as the policy
--     PlainReadsAlike           over the plain pair, rows of upper values within the penalty are read as they are without one
--     BalancedIsOverPlain       and a balanced certificate of such rows is one over the plain pair
--     LowIsWithinHigh           where each step costs something, the lower value of balanced readings is at most the upper one
use Rattle.std.specs.Prelude.{◌≡◌, ◌↔◌, ℕ, ◌<◌, ◌≤◌, false, Bool, Option, List, Contains}
use Rattle.plain_list.specs.weighted.Chances.{IsExact}
use Rattle.decision_process.specs.Process.{Process, Start, HasDenominator, CostsAtLeast}
use Rattle.decision_process.specs.Enclosing.{Encloses}
use Rattle.decision_process.specs.Balanced.{IsBalanced}
use Rattle.decision_process.specs.Readings.{Row, Certificate, low, high, act, IsBalancedCertificate}
use Rattle.balanced_pair.specs.Pairs.{Pair, IsSubSolution, IsSuperSolution, IsBalancedPair, plain, low_over, high_over, act_over, read, IsRowFrom, IsCertificateOver}

module _ {S A : Type 0} (p : Process S A) where
  abbrev pub HalvesAreBalanced : Type 0
  HalvesAreBalanced = (low high : S → ℕ) (act : S → Option A)
      → IsBalanced p low high act ↔ (IsSubSolution p low × IsSuperSolution p high act)

  abbrev pub PlainIsBalanced : Type 0
  PlainIsBalanced = IsBalancedPair p (plain p)

  abbrev pub RowsOverPairAreBalanced : Type 0
  RowsOverPairAreBalanced = (same : S → S → Bool) → IsExact same
      → (pair : Pair S A) → IsBalancedPair p pair → (rows : List (Row S A))
      → ((row : Row S A) → Contains rows row → IsRowFrom p (read p same pair rows) row)
      → IsBalancedPair p (read p same pair rows)

  abbrev pub CertificateOverEncloses : Type 0
  CertificateOverEncloses = (same : S → S → Bool) → IsExact same
      → (pair : Pair S A) → IsBalancedPair p pair
      → (starts : List (Start S)) (start_den : ℕ) → 0 < start_den
      → (c : Certificate S A) → IsCertificateOver p same pair starts start_den c
      → Encloses p starts start_den c.lower c.upper (act_over p same pair c.rows)

  pub record ReadsAlike (same : S → S → Bool) (rows : List (Row S A)) (s : S) : Type 0 where
    pub low : low_over p same (plain p) rows s ≡ low same rows s
    pub high : high_over p same (plain p) rows s ≡ high p same rows s
    pub act : p.goal s ≡ false → act_over p same (plain p) rows s ≡ act same rows s

  abbrev pub PlainReadsAlike : Type 0
  PlainReadsAlike = (same : S → S → Bool) → IsExact same → (rows : List (Row S A))
      → ((row : Row S A) → Contains rows row → row.upper ≤ p.penalty)
      → (s : S) → ReadsAlike same rows s

  abbrev pub BalancedIsOverPlain : Type 0
  BalancedIsOverPlain = (same : S → S → Bool) → IsExact same
      → (starts : List (Start S)) (start_den : ℕ) (c : Certificate S A)
      → IsBalancedCertificate p same starts start_den c
      → ((row : Row S A) → Contains c.rows row → row.upper ≤ p.penalty)
      → IsCertificateOver p same (plain p) starts start_den c

  abbrev pub LowIsWithinHigh : Type 0
  LowIsWithinHigh = HasDenominator p → 0 < p.den → (c : ℕ) → 0 < c → CostsAtLeast p c
      → (low high : S → ℕ) (act : S → Option A) → IsBalanced p low high act
      → (s : S) → low s ≤ high s
