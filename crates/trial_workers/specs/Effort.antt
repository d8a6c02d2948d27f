-- What rounds bring, as plain rounded iteration does (`decision_process`).
--     HasRoundsOf g depth r v    the view has seen at least what r rounds of plain iteration bring to the states near the starts, as far
--                                as they fit the depth
--     HaveRounds g depth r ws    worker 0 has
--     IsWithinPlain g depth s    the answer is no wider than the interval of as many rounds
--     IsPlainWide g depth gap r  the interval of so many rounds of plain iteration is wider than the gap
--     FirstHasSeen g s ws        the means of what worker 0 has seen are no wider than the answer
--     FirstIsWithin g gap ws     the means of what worker 0 has seen differ by at most the gap
use Rattle.std.specs.Prelude.{ℕ, ◌+◌, ◌<◌, ◌≤◌, Option, List, [], ◌∷◌}
use Rattle.decision_process.specs.Rounded.{plain_low, plain_high}
use Rattle.decision_process.specs.sweeps.Sweeps.{rounds_at, HasRounds}
use Rattle.ground_model.specs.Ground.{Ground}
use Rattle.ground_model.specs.Steps.{ground_process, ground_starts}
use Rattle.word_table.specs.declared.view.View.{View}
use Rattle.word_table.specs.view.Views.{seen_lower}
use Rattle.bellman_backup.specs.means.Means.{seen_value, lower_mean, upper_mean}
use Rattle.trial_workers.specs.declared.effort.Solved.{Solved}
use Rattle.trial_workers.specs.declared.worker.Worker.{Worker}

abbrev pub HasRoundsOf : Ground → Option ℕ → ℕ → View → Type 0
HasRoundsOf g depth r v =
    HasRounds (ground_process g) (ground_starts g) depth r (seen_lower v) (seen_value v)

abbrev pub HaveRounds : Ground → Option ℕ → ℕ → List Worker → Type 0
HaveRounds g depth r [] = ⊥
HaveRounds g depth r (w ∷ ws) = HasRoundsOf g depth r w.pass.view

pub record IsWithinPlain (g : Ground) (depth : Option ℕ) (s : Solved) : Type 0 where
  pub lower : plain_low (ground_process g) (ground_starts g) g.start_den (rounds_at depth s.rounds 1)
      ≤ s.lower
  pub upper : s.upper
      ≤ plain_high (ground_process g) (ground_starts g) g.start_den (rounds_at depth s.rounds 1)

abbrev pub IsPlainWide : Ground → Option ℕ → ℕ → ℕ → Type 0
IsPlainWide g depth gap r =
    plain_low (ground_process g) (ground_starts g) g.start_den (rounds_at depth r 1) + gap
    < plain_high (ground_process g) (ground_starts g) g.start_den (rounds_at depth r 1)

abbrev pub FirstHasSeen : Ground → Solved → List Worker → Type 0
FirstHasSeen g s [] = ⊥
FirstHasSeen g s (w ∷ ws) =
    (s.lower ≤ lower_mean g w.pass.view) × (upper_mean g w.pass.view ≤ s.upper)

abbrev pub FirstIsWithin : Ground → ℕ → List Worker → Type 0
FirstIsWithin g gap [] = ⊥
FirstIsWithin g gap (w ∷ ws) = upper_mean g w.pass.view ≤ lower_mean g w.pass.view + gap
