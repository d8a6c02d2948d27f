-- What a watcher is told of a search.
--     ends_of g s                the interval over the starts of what a search left, and its rounds
--     AreToldOf g sizes s rs     readings of the rounds of the search that left this, each before the next: each interval encloses that
--                                over the starts, and is no wider than that of as many rounds of plain iteration, as far as they fit
--                                the swept depth; with rounds above 0 one is of the last round
--     HasTold tells old new fact a watcher was told of readings, each before the next, of which this is a fact
use Rattle.std.specs.Prelude.{ℕ, ◌+◌, List, Option, AllPairs}
use Rattle.decision_process.specs.Levels.{IsDepthWithin}
use Rattle.ground_model.specs.Ground.{Ground}
use Rattle.ground_model.specs.Steps.{ground_process, ground_starts}
use Rattle.bound_core.specs.ends.Ends.{closing_low, closing_high}
use Rattle.trial_workers.specs.declared.effort.Solved.{Solved}
use Rattle.trial_workers.specs.declared.reading.Reading.{Reading}
use Rattle.trial_workers.specs.Watching.{HasBeenTold, IsBefore, AreTold}
use Rattle.plan_search.specs.declared.solver.closing.Closing.{Closing}
use Rattle.plan_search.specs.declared.solver.sizes.Sizes.{Sizes}

abbrev pub ends_of : Ground → Closing → Solved
ends_of g s = record {
  rounds = s.rounds;
  lower = closing_low g s.image.rows;
  upper = closing_high g s.image.rows;
}

pub record AreToldOf (g : Ground) (sizes : Sizes) (s : Closing) (rs : List Reading) : Type 0 where
  pub depth : Option ℕ
  pub fits : IsDepthWithin (ground_process g) (ground_starts g) sizes.sweep_states depth
  pub told : AreTold g (sizes.states + sizes.workers) depth (ends_of g s) rs

abbrev pub HasTold : {W : Type 0} → (W → Reading → W → Type 0) → W → W → (List Reading → Type 0) → Type 0
HasTold tells old new fact = (rs : List Reading) × HasBeenTold tells rs old new × AllPairs IsBefore rs × fact rs
