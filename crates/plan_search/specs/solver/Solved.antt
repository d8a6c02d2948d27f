-- What a search answers.
--     IsSolved g sizes effort s  what is known of all states, the starts first: all states near the starts have rows, as far as so many
--                                states may be swept; the ids that are given out are few, and few of them have no row; the interval over
--                                the starts is no wider than that of as many rounds of plain rounded iteration, as far as they fit the
--                                swept depth; its ends are at most the gap apart, or all rounds were made; with rounds above 0, plain
--                                iteration of the rounds before the last is wider than the gap, and as many workers as were asked for
--                                show the trials of the last one
use Rattle.std.specs.Prelude.{◌≡◌, ◌⊎◌, ℕ, ◌+◌, ◌-◌, ◌<◌, ◌≤◌, Option, length}
use Rattle.decision_process.specs.Levels.{IsDepthWithin}
use Rattle.decision_process.specs.Rounded.{plain_low, plain_high}
use Rattle.decision_process.specs.sweeps.Sweeps.{rounds_at, IsNear}
use Rattle.ground_model.specs.Packed.{State}
use Rattle.ground_model.specs.Ground.{Ground}
use Rattle.ground_model.specs.Steps.{ground_process, ground_starts}
use Rattle.trial_workers.specs.declared.effort.Effort.{Effort}
use Rattle.trial_workers.specs.Effort.{IsPlainWide}
use Rattle.bound_core.specs.ends.Closing.{IsClosing, HasStartsFirst, HasRowOf}
use Rattle.bound_core.specs.ends.Ends.{closing_low, closing_high}
use Rattle.plan_search.specs.declared.solver.closing.Closing.{Closing}
use Rattle.plan_search.specs.declared.solver.sizes.Sizes.{Sizes}
use Rattle.plan_search.specs.solver.Rounds.{HasMadeTrials}

pub record IsSolved (g : Ground) (sizes : Sizes) (effort : Effort) (s : Closing) : Type 0 where
  pub closing : IsClosing g s.image.rows
  pub starts : HasStartsFirst g s.image.rows
  pub depth : Option ℕ
  pub fits : IsDepthWithin (ground_process g) (ground_starts g) sizes.sweep_states depth
  pub near : (t : State) → IsNear (ground_process g) (ground_starts g) depth t
      → HasRowOf s.image.rows t
  pub few : length s.image.rows ≤ s.image.given_out
  pub given : s.image.given_out ≤ sizes.states + sizes.workers
  pub spares : s.image.given_out ≤ length s.image.rows + sizes.workers
  pub rounds : s.rounds ≤ effort.rounds
  pub low : plain_low (ground_process g) (ground_starts g) g.start_den (rounds_at depth s.rounds 1)
      ≤ closing_low g s.image.rows
  pub high : closing_high g s.image.rows
      ≤ plain_high (ground_process g) (ground_starts g) g.start_den (rounds_at depth s.rounds 1)
  pub early : 0 < s.rounds → IsPlainWide g depth effort.gap (s.rounds - 1)
  pub trials : HasMadeTrials g effort sizes.workers s.rounds
  pub end : (closing_high g s.image.rows ≤ closing_low g s.image.rows + effort.gap)
      ⊎ (s.rounds ≡ effort.rounds)
