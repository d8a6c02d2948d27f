-- The laws of narrower readings, as statements.
--     NarrowerIsBalanced p      of two balanced readings the narrower is balanced: the greater of two sub-solutions is a sub-solution,
--                               and the smaller of two super-solutions, with the act of the smaller, is a super-solution
--     NarrowerIntervalWithin    its interval lies in both intervals
use Rattle.std.specs.Prelude.{ℕ, ◌<◌, ◌≤◌, Option, List}
use Rattle.decision_process.specs.Process.{Process, Start}
use Rattle.decision_process.specs.Balanced.{IsBalanced, IsInterval}
use Rattle.cert_merge.specs.Narrower.{greater, smaller, act_of_smaller}

abbrev pub NarrowerIsBalanced : {S A : Type 0} → Process S A → Type 0
NarrowerIsBalanced {S} {A} p = (low high low' high' : S → ℕ) (act act' : S → Option A)
    → IsBalanced p low high act → IsBalanced p low' high' act'
    → IsBalanced p (greater low low') (smaller high high') (act_of_smaller high high' act act')

pub record LiesIn (lower upper lower' upper' : ℕ) : Type 0 where
  pub above : lower' ≤ lower
  pub below : upper ≤ upper'

abbrev pub NarrowerIntervalWithin : Type 0 → Type 0
NarrowerIntervalWithin S = (low high low' high' : S → ℕ) (starts : List (Start S)) (start_den : ℕ) → 0 < start_den
    → (lower upper lower' upper' lower'' upper'' : ℕ)
    → IsInterval low high starts start_den lower upper
    → IsInterval low' high' starts start_den lower' upper'
    → IsInterval (greater low low') (smaller high high') starts start_den lower'' upper''
    → LiesIn lower'' upper'' lower upper × LiesIn lower'' upper'' lower' upper'
