-- What is known of the cost from below, whoever knows it.
--     IsUnder p v s              v is at most the penalty, and at most the least cost of some number of steps from s
--     AreBelowPlans p starts start_den L
--                                no plans fitted to the starts cost less than L on average
--     under_mean low value starts start_den
--                                the mean over the starts of the greater of two readings, rounded down
-- Source: admissible heuristics (Hart, Nilsson and Raphael 1968), as lower bounds of BRTDP (McMahan, Likhachev and Gordon 2005).
use Rattle.std.specs.Prelude.{ℕ, ◌*◌, ◌^◌, ◌≤◌, max, List}
use Rattle.decision_process.specs.Process.{Process, Start, at_starts}
use Rattle.decision_process.specs.Plans.{Plans, deepest}
use Rattle.decision_process.specs.Least.{CoversFromBelow}
use Rattle.decision_process.specs.Enclosing.{FitStarts, cost_starts}
use Rattle.decision_process.specs.Backup.{floor}

module _ {S A : Type 0} (p : Process S A) where
  abbrev pub IsUnder : ℕ → S → Type 0
  IsUnder value s = (value ≤ p.penalty) × CoversFromBelow p value s

  abbrev pub AreBelowPlans : List (Start S) → ℕ → ℕ → Type 0
  AreBelowPlans starts start_den lower = (plans : Plans A) (n : ℕ) → FitStarts p plans starts
      → deepest plans ≤ n
      → lower * start_den * p.den ^ n ≤ cost_starts p plans n starts

abbrev pub under_mean : {S : Type 0} → (S → ℕ) → (S → ℕ) → List (Start S) → ℕ → ℕ
under_mean low value starts start_den =
    floor (at_starts (λ s. max (low s) (value s)) starts) start_den
