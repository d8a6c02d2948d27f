-- Values within limits.
--     Limited Is result answer   a value that Is, where the answer is that all limits are kept; else the first that is not, or want of memory
--     sized task charges tested  the limits of kept instances, where the tried preconditions have this size, and of the size with the goal
--     ended task                 the limits of atoms and of initial states
use Rattle.std.specs.Prelude.{◌≡◌, ℕ, ◌+◌, length, Result, Ok, Err}
use Rattle.plain_list.specs.Results.{◌>>=◌}
use Rattle.ppddl_model.specs.declared.tree.Task.{Task}
use Rattle.ppddl_model.specs.Changing.{kept_instances}
use Rattle.ppddl_model.specs.Steps.{Charges, world}
use Rattle.ground_meaning.specs.choices.Limits.{condition_size}
use Rattle.ground_meaning.specs.declared.refusals.limits.LimitCode.{LimitCode}
use Rattle.ground_meaning.specs.declared.refusals.limits.LimitCode.TheVariants as limit
use Rattle.ground_meaning.specs.declared.refusals.refusal.GroundRefusal.{GroundRefusal}
use Rattle.ground_meaning.specs.declared.refusals.refusal.GroundRefusal.TheVariants.{Limit, Memory}
use Rattle.ground_meaning.specs.refusals.Atoms.{numbering_of}
use Rattle.ground_meaning.specs.refusals.Limits.{within, instances_within}
use Rattle.ground_meaning.specs.refusals.Starts.{starts_den, widest_start}

abbrev pub Limited : {A : Type 0} → (A → Type 0) → Result A GroundRefusal → Result (Unit {0}) LimitCode → Type 0
Limited Is (Ok x) answer = (answer ≡ Ok tt) × Is x
Limited Is (Err (Limit code)) answer = answer ≡ Err code
Limited Is (Err Memory) answer = Unit {0}
Limited Is (Err _) answer = ⊥

abbrev pub sized : Task → Charges → ℕ → Result (Unit {0}) LimitCode
sized task charges tested =
    instances_within task charges 0 tested (kept_instances task)
    >>= λ size. within (size + condition_size (world task) task.problem.goal) limit.GroundSize

abbrev pub ended : Task → Result (Unit {0}) LimitCode
ended task =
    within (length (numbering_of task).atoms) limit.Atoms
    >>= λ _. within (starts_den task.problem.init) limit.Denominator
    >>= λ _. within (widest_start (numbering_of task) task.problem.init) limit.Starts
