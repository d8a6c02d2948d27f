-- The laws of lower values that no plan undercuts, as statements.
--     SubSolutionIsUncut        no plan undercuts a sub-solution of the Bellman equation
--     RaisedIsUncut             nor a value that follows from lower values which none undercuts
--     CoveredIsUncut            nor a value that is at most the least cost of some number of steps
--     GreaterIsUncut            nor the greater of two values which none undercuts
--     UncutMeanIsBelowPlans     no plans fitted to the starts cost less on average than the mean of such values, rounded down
--     OptimumDoesNotCover       the least expected cost of the coin is not at most the least cost of any number of flips
use Rattle.std.specs.Prelude.{ℕ, ◌<◌, max, List, Contains}
use Rattle.decision_process.specs.Process.{Process, Start, at_starts, EachOutcome}
use Rattle.decision_process.specs.Backup.{floor}
use Rattle.decision_process.specs.Following.{IsLowerFrom}
use Rattle.decision_process.specs.Least.{CoversFromBelow}
use Rattle.decision_process.specs.Coin.{coin, tails}
use Rattle.decision_process.specs.under.Under.{AreBelowPlans}
use Rattle.balanced_pair.specs.Pairs.{IsSubSolution}
use Rattle.balanced_pair.specs.uncut.Uncut.{IsUncut}

module _ {S A : Type 0} (p : Process S A) where
  abbrev pub SubSolutionIsUncut : Type 0
  SubSolutionIsUncut = (low : S → ℕ) → IsSubSolution p low → (s : S) → IsUncut p (low s) s

  abbrev pub RaisedIsUncut : Type 0
  RaisedIsUncut = (low : S → ℕ) (s : S) (value : ℕ) → IsLowerFrom p low s value
      → EachOutcome p s (λ o. IsUncut p (low o.next) o.next) → IsUncut p value s

  abbrev pub CoveredIsUncut : Type 0
  CoveredIsUncut = 0 < p.den → (value : ℕ) (s : S) → CoversFromBelow p value s → IsUncut p value s

  abbrev pub GreaterIsUncut : Type 0
  GreaterIsUncut = (value other : ℕ) (s : S) → IsUncut p value s → IsUncut p other s
      → IsUncut p (max value other) s

  abbrev pub UncutMeanIsBelowPlans : Type 0
  UncutMeanIsBelowPlans = (value : S → ℕ) (starts : List (Start S)) (start_den : ℕ)
      → ((x : Start S) → Contains starts x → IsUncut p (value x.state) x.state)
      → AreBelowPlans p starts start_den (floor (at_starts value starts) start_den)

abbrev pub OptimumDoesNotCover : Type 0
OptimumDoesNotCover = CoversFromBelow coin 2000000 tails → ⊥
