-- How wide the bounds of plain rounded iteration can still be, as statements: from the penalty and the least cost of a step alone.
-- Each step costs at least c + 1, and N is at least 2 * penalty / c. After n rounds, n at least m * N, the bounds are at most
-- penalty / 2 ^ m + 2 * penalty / c apart.
--     UpNarrowsToDown        those of each state
--     IntervalNarrows        those of the starts, and 2 more, since their means are rounded
--     TaskNarrows, TaskIntervalNarrows
--                            the same of a planning task, with its least step cost
--     GroundNarrows, GroundIntervalNarrows
--                            the same of a ground problem, with the least cost of its choices
use Rattle.std.specs.Prelude.{◌≡◌, ℕ, ◌+◌, ◌*◌, ◌<◌, ◌≤◌, List}
use Rattle.plain_list.specs.weighted.Mean.{total}
use Rattle.decision_process.specs.Process.{Process, Start, HasDenominator, CostsAtLeast}
use Rattle.decision_process.specs.Rounded.{down, up, plain_low, plain_high}
use Rattle.ppddl_model.specs.declared.tree.Task.{Task}
use Rattle.ppddl_model.specs.Chances.{HasProperChances, HasProperStarts, HasPositiveDenominators}
use Rattle.ppddl_model.specs.State.{State}
use Rattle.ppddl_model.specs.Steps.{Charges, process, least_step_cost, starts, start_den}
use Rattle.ground_model.specs.Ground.{Ground}
use Rattle.ground_model.specs.Packed as ground
use Rattle.ground_model.specs.Steps.{ground_process, ground_starts, least_choice_cost}
use Rattle.ground_meaning.specs.progress.Width.{IsNarrow}

module _ {S A : Type 0} (p : Process S A) where
  abbrev pub UpNarrowsToDown : Type 0
  UpNarrowsToDown = 0 < p.den → HasDenominator p → (c N : ℕ) → CostsAtLeast p (c + 1)
      → 2 * p.penalty ≤ N * c → (m n : ℕ) → m * N ≤ n
      → (s : S) → IsNarrow p.penalty c m (down p n s) (up p n s)

  abbrev pub IntervalNarrows : Type 0
  IntervalNarrows = 0 < p.den → HasDenominator p → (c N : ℕ) → CostsAtLeast p (c + 1)
      → 2 * p.penalty ≤ N * c → (m n : ℕ) → m * N ≤ n
      → (starts : List (Start S)) (den : ℕ) → 0 < den → total (λ start. start.weight) starts ≡ den
      → IsNarrow p.penalty c m (plain_low p starts den n + 2) (plain_high p starts den n)

module _ (task : Task) (charges : Charges) where
  abbrev pub TaskNarrows : Type 0
  TaskNarrows = HasPositiveDenominators task → HasProperChances task
      → (c N : ℕ) → c + 1 ≤ least_step_cost task charges
      → 2 * charges.penalty ≤ N * c → (m n : ℕ) → m * N ≤ n → (s : State)
      → IsNarrow charges.penalty c m
      (down (process task charges) n s) (up (process task charges) n s)

  abbrev pub TaskIntervalNarrows : Type 0
  TaskIntervalNarrows = HasPositiveDenominators task → HasProperChances task → HasProperStarts task
      → (c N : ℕ) → c + 1 ≤ least_step_cost task charges
      → 2 * charges.penalty ≤ N * c → (m n : ℕ) → m * N ≤ n
      → IsNarrow charges.penalty c m
      (plain_low (process task charges) (starts task) (start_den task) n + 2)
      (plain_high (process task charges) (starts task) (start_den task) n)

module _ (g : Ground) where
  abbrev pub GroundNarrows : Type 0
  GroundNarrows = (c N : ℕ) → c + 1 ≤ least_choice_cost g
      → 2 * g.penalty ≤ N * c → (m n : ℕ) → m * N ≤ n → (s : ground.State)
      → IsNarrow g.penalty c m (down (ground_process g) n s) (up (ground_process g) n s)

  abbrev pub GroundIntervalNarrows : Type 0
  GroundIntervalNarrows = (c N : ℕ) → c + 1 ≤ least_choice_cost g
      → 2 * g.penalty ≤ N * c → (m n : ℕ) → m * N ≤ n
      → IsNarrow g.penalty c m
      (plain_low (ground_process g) (ground_starts g) g.start_den n + 2)
      (plain_high (ground_process g) (ground_starts g) g.start_den n)
