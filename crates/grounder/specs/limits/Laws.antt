-- All limits begin with the early ones, as a statement.
--     later_limits task charges tested   the limits behind the early ones, where the tried preconditions have this size
--     LimitsBegin                        all limits are the early ones, and then the later ones
use Rattle.std.specs.Prelude.{◌≡◌, ℕ, ◌+◌, length, Result}
use Rattle.plain_list.specs.Results.{◌>>=◌}
use Rattle.ppddl_model.specs.declared.tree.Task.{Task}
use Rattle.ppddl_model.specs.Changing.{kept_instances}
use Rattle.ppddl_model.specs.Steps.{Charges, world}
use Rattle.ground_meaning.specs.choices.Limits.{condition_size}
use Rattle.ground_meaning.specs.declared.refusals.limits.LimitCode.{LimitCode}
use Rattle.ground_meaning.specs.declared.refusals.limits.LimitCode.TheVariants.{Atoms, Denominator, GroundSize, Starts}
use Rattle.ground_meaning.specs.refusals.Atoms.{numbering_of}
use Rattle.ground_meaning.specs.refusals.Starts.{starts_den, widest_start}
use Rattle.ground_meaning.specs.refusals.Limits.{within, instances_within, limits}
use Rattle.grounder.specs.limits.Early.{early_limits}

abbrev pub later_limits : Task → Charges → ℕ → Result (Unit {0}) LimitCode
later_limits task charges tested =
    instances_within task charges 0 tested (kept_instances task)
    >>= λ size. within (size + condition_size (world task) task.problem.goal) GroundSize
    >>= λ _. within (length (numbering_of task).atoms) Atoms
    >>= λ _. within (starts_den task.problem.init) Denominator
    >>= λ _. within (widest_start (numbering_of task) task.problem.init) Starts

abbrev pub LimitsBegin : Type 0
LimitsBegin = (task : Task) (charges : Charges) → limits task charges ≡ (early_limits task >>= later_limits task charges)
