-- Consistent heuristics of a decision process.
--     IsConsistent p h           h is at most the penalty, 0 at goals, and falls by no more than what a step costs, whatever its outcome
-- Source: consistency (Hart, Nilsson and Raphael 1968), for each outcome.
use Rattle.std.specs.Prelude.{◌≡◌, ℕ, ◌+◌, ◌≤◌, true}
use Rattle.decision_process.specs.Process.{Process, Outcome, EachOutcome}

module _ {S A : Type 0} (p : Process S A) (h : S → ℕ) where
  pub record IsConsistent : Type 0 where
    pub within_quit : (s : S) → h s ≤ p.penalty
    pub at_goal : (s : S) → p.goal s ≡ true → h s ≡ 0
    pub steps : (s : S) → EachOutcome p s (λ (o : Outcome S). h s ≤ o.cost + h o.next)
