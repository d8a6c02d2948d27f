-- The laws of progress at ground problems.
use Rattle.std.proofs.Common.{ℕ, ◌+◌, ◌≤◌, arith}
use Rattle.decision_process.specs.Process.{CostsAtLeast}
use Rattle.ground_model.specs.Ground.{Ground}
use Rattle.ground_model.specs.Invariant.{IsGroundProblem}
use Rattle.ground_model.specs.Steps.{ground_process, ground_starts, least_choice_cost}
use Rattle.ground_model.proofs.Steps.{has_denominator, costs_at_least, den_positive, start_den_positive, starts_have_denominator}
use Rattle.ground_meaning.specs.progress.Laws as laws
use Rattle.ground_meaning.proofs.lemmas.progress.Progress.{up_narrows_to_down}
use Rattle.ground_meaning.proofs.lemmas.progress.Means.{interval_narrows}

module _ (g : Ground) (is : IsGroundProblem g) where
  choices_cost : (c : ℕ) → c + 1 ≤ least_choice_cost g → CostsAtLeast (ground_process g) (c + 1)
  choices_cost c least k s is_open o inside = omega (arith, costs_at_least g is k s is_open o inside, least)

  pub ground_narrows : laws.GroundNarrows g
  ground_narrows c N least many m n later s =
      up_narrows_to_down (ground_process g) (den_positive g is) (has_denominator g is) c N (choices_cost c least) many m n later s

  pub ground_interval_narrows : laws.GroundIntervalNarrows g
  ground_interval_narrows c N least many m n later =
      interval_narrows (ground_process g) (den_positive g is) (has_denominator g is) c N (choices_cost c least) many m n later
      (ground_starts g) g.start_den (start_den_positive g is) (starts_have_denominator g is)
