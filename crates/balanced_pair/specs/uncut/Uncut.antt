-- Lower values that no plan undercuts.
--     IsUncut p value s      no fitting plan costs less than the value from s
-- What is at most the least cost of some number of steps is uncut, but not the other way round: where a plan may go on without bound, the
-- least expected cost itself may be above the least cost of each number of steps, and it is uncut.
-- Source: admissible heuristics (Hart, Nilsson and Raphael 1968): of each plan, in expectation.
use Rattle.std.specs.Prelude.{ℕ, ◌*◌, ◌^◌, ◌≤◌}
use Rattle.decision_process.specs.Process.{Process}
use Rattle.decision_process.specs.Plans.{Plan, depth, Fits, cost}

module _ {S A : Type 0} (p : Process S A) where
  abbrev pub IsUncut : ℕ → S → Type 0
  IsUncut value s = (plan : Plan A) (n : ℕ) → Fits p plan s → depth plan ≤ n
      → value * p.den ^ n ≤ cost p plan n s
