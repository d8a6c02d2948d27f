-- The laws of progress at planning tasks.
use Rattle.std.proofs.Common.{ℕ, ◌+◌, ◌≤◌, arith}
use Rattle.decision_process.specs.Process.{CostsAtLeast}
use Rattle.ppddl_model.specs.declared.tree.Task.{Task}
use Rattle.ppddl_model.specs.Steps.{Charges, process, least_step_cost, starts, start_den}
use Rattle.ppddl_model.proofs.Costs.{steps_cost}
use Rattle.ppddl_model.proofs.Starts.{weight_of-starts, start_den-pos, step_den-pos}
use Rattle.ppddl_model.proofs.Weights.{weight_of-step}
use Rattle.ground_meaning.specs.progress.Laws as laws
use Rattle.ground_meaning.proofs.lemmas.progress.Progress.{up_narrows_to_down}
use Rattle.ground_meaning.proofs.lemmas.progress.Means.{interval_narrows}

module _ (task : Task) (charges : Charges) where
  costs_at_least : (c : ℕ) → c + 1 ≤ least_step_cost task charges → CostsAtLeast (process task charges) (c + 1)
  costs_at_least c least i s is_open o inside = omega (arith, steps_cost task charges i s is_open o inside, least)

  pub task_narrows : laws.TaskNarrows task charges
  task_narrows positive proper c N least many m n later s =
      up_narrows_to_down (process task charges) (step_den-pos task positive) (weight_of-step task charges proper) c N
      (costs_at_least c least) many m n later s

  pub task_interval_narrows : laws.TaskIntervalNarrows task charges
  task_interval_narrows positive proper proper_starts c N least many m n later =
      interval_narrows (process task charges) (step_den-pos task positive) (weight_of-step task charges proper) c N
      (costs_at_least c least) many m n later (starts task) (start_den task) (start_den-pos task positive) (weight_of-starts task proper_starts)
