-- The mean over the starts of the greater of lower bounds when a search has ended and of what a rule answers.
--     greater rows value s       the greater of the lower bound of s and its value
--     mean_with g rows value     the mean of that over the starts, rounded down
--     IsUnderSum answers g rows xs sum
--                                the sum of weight times that over these starts, for answers of the rule, at most the penalty each
--     AnswersOnly answers g f    each answer for a state of the problem's length is what f gives for it
--     IsUnderMean answers g rows mean
--                                the mean of that over all starts, rounded down, for answers of the rule; so it is that for f where the
--                                rule answers what f gives and nothing else
use Rattle.std.specs.Prelude.{◌≡◌, ℕ, ◌*◌, ◌≤◌, max, List, length, Contains}
use Rattle.plain_list.specs.weighted.Mean.{total}
use Rattle.decision_process.specs.Readings.{low}
use Rattle.decision_process.specs.under.Under.{IsUnder, under_mean}
use Rattle.ground_model.specs.declared.start.Start.{Start}
use Rattle.ground_model.specs.Packed.{State, same_state}
use Rattle.ground_model.specs.Ground.{Ground}
use Rattle.ground_model.specs.Steps.{ground_process, ground_starts}
use Rattle.bound_core.specs.Core.{width}
use Rattle.bound_core.specs.declared.image.ImageRow.{ImageRow}
use Rattle.bound_core.specs.ends.Closing.{closing_rows}
use Rattle.bound_core.specs.ends.Sums.{over}

abbrev pub greater : List ImageRow → (State → ℕ) → State → ℕ
greater rows value s = max (low same_state (closing_rows rows) s) (value s)

abbrev pub mean_with : Ground → List ImageRow → (State → ℕ) → ℕ
mean_with g rows value =
    under_mean (low same_state (closing_rows rows)) value (ground_starts g) g.start_den

module _ (answers : State → ℕ → Type 0) (g : Ground) where
  abbrev pub AnswersOnly : (State → ℕ) → Type 0
  AnswersOnly f = (s : State) (value : ℕ) → length s ≡ width g → answers s value → value ≡ f s

module _ (answers : State → ℕ → Type 0) (g : Ground) (rows : List ImageRow) where
  pub record IsUnderSum (xs : List Start) (sum : ℕ) : Type 0 where
    pub value : State → ℕ
    pub answered : (x : Start) → Contains xs x → answers x.state (value x.state)
    pub under : (x : Start) → Contains xs x → IsUnder (ground_process g) (value x.state) x.state
    pub sum_is : sum ≡ over (greater rows value) xs
    pub within_quit : sum ≤ total (λ (x : Start). x.weight) xs * g.penalty

  pub record IsUnderMean (mean : ℕ) : Type 0 where
    pub value : State → ℕ
    pub answered : (x : Start) → Contains g.starts x → answers x.state (value x.state)
    pub mean_is : mean ≡ mean_with g rows value
    pub determined : (f : State → ℕ) → AnswersOnly answers g f → mean ≡ mean_with g rows f
