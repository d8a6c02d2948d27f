-- The laws of partial rows, as statements.
--     PartialHighIsLeast           off goals, the value is the least of the penalty and of the rows that hold the state
--     PartialRowsAreSuperSolution  the values of supported partial rows, with their acts, are a super-solution of the Bellman equation
use Rattle.std.specs.Prelude.{◌≡◌, ◌⊎◌, ◌≤◌, true, false, List, Contains}
use Rattle.decision_process.specs.Process.{Process}
use Rattle.balanced_pair.specs.Pairs.{IsSuperSolution}
use Rattle.balanced_pair.specs.partial_rows.PartialRows.{PartialRow, IsSupported, partial_high, partial_act}

module _ {S A : Type 0} (p : Process S A) where
  pub record IsLeastUpper (rows : List (PartialRow S A)) (s : S) : Type 0 where
    pub within_penalty : partial_high p rows s ≤ p.penalty
    pub within_row : (row : PartialRow S A) → Contains rows row → row.holds s ≡ true
        → partial_high p rows s ≤ row.upper
    pub one_of_them : (partial_high p rows s ≡ p.penalty)
        ⊎ ((row : PartialRow S A) × Contains rows row × (row.holds s ≡ true)
        × (partial_high p rows s ≡ row.upper))

  abbrev pub PartialHighIsLeast : Type 0
  PartialHighIsLeast = (rows : List (PartialRow S A)) (s : S) → p.goal s ≡ false
      → IsLeastUpper rows s

  abbrev pub PartialRowsAreSuperSolution : Type 0
  PartialRowsAreSuperSolution = (rows : List (PartialRow S A))
      → ((row : PartialRow S A) → Contains rows row → IsSupported p rows row)
      → IsSuperSolution p (partial_high p rows) (partial_act p rows)
