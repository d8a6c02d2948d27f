-- The limits that are tested before any instance is formed.
--     one_within task size a    the size so far with the tried preconditions of an action, or the first limit
--     early_limits task         the size of all tried preconditions, or the first limit: objects, instances tried, then those of the actions
use Rattle.std.specs.Prelude.{ℕ, ◌+◌, ◌*◌, length, Result, Ok}
use Rattle.plain_list.specs.Results.{◌>>=◌}
use Rattle.ppddl_model.specs.declared.tree.Action.{Action}
use Rattle.ppddl_model.specs.declared.tree.Task.{Task}
use Rattle.ppddl_model.specs.Steps.{world, instances}
use Rattle.ground_meaning.specs.choices.Joint.{den_of}
use Rattle.ground_meaning.specs.choices.Limits.{condition_size}
use Rattle.ground_meaning.specs.declared.refusals.limits.LimitCode.{LimitCode}
use Rattle.ground_meaning.specs.declared.refusals.limits.LimitCode.TheVariants.{Denominator, Instances, Objects, GroundSize}
use Rattle.ground_meaning.specs.refusals.Limits.{within, tried, actions_within}

module _ (task : Task) where
  abbrev pub sizes_of : Action → ℕ
  sizes_of a = tried task a * condition_size (world task) a.condition

  abbrev pub one_within : ℕ → Action → Result ℕ LimitCode
  one_within size a =
      within (den_of (world task) a.effect) Denominator
      >>= λ _. within (size + sizes_of a) GroundSize
      >>= λ _. Ok (size + sizes_of a)

  abbrev pub early_limits : Result ℕ LimitCode
  early_limits =
      within (length (world task).objects) Objects
      >>= λ _. within (length (instances task)) Instances
      >>= λ _. actions_within task 0 task.domain.actions
