-- The ground actions of a task, or why it has none within the limits.
--     IsBindingOf task b                     what names stand for in the binding is what they stand for in the task
--     Answers task charges result answer     the result is the answer of the limits, with the ground actions where that is a size,
--                                            or want of memory
use Rattle.std.specs.Prelude.{◌≡◌, ℕ, map, Result, Ok, Err}
use Rattle.ppddl_model.specs.declared.tree.Task.{Task}
use Rattle.ppddl_model.specs.Changing.{kept_instances}
use Rattle.ppddl_model.specs.Steps.{Charges}
use Rattle.ground_meaning.specs.declared.refusals.limits.LimitCode.{LimitCode}
use Rattle.ground_meaning.specs.declared.refusals.refusal.GroundRefusal.{GroundRefusal}
use Rattle.ground_meaning.specs.declared.refusals.refusal.GroundRefusal.TheVariants.{Limit, Memory}
use Rattle.ground_meaning.specs.refusals.Atoms as atoms
use Rattle.ground_meaning.specs.refusals.Problem.{ground_action}
use Rattle.ground_terms.specs.sizes.Typed.{IsTyped}
use Rattle.outcome_dist.specs.declared.conditions.binding.Binding.{Binding}
use Rattle.outcome_dist.specs.conditions.Bindings.{numbering_of}
use Rattle.task_instances.specs.facts.Facts.{table_of}
use Rattle.grounder.specs.declared.actions.GroundActions.{GroundActions}

pub record IsBindingOf (task : Task) (b : Binding) : Type 0 where
  pub table : b.table.now ≡ table_of task
  pub typed : IsTyped b.table.now
  pub values : b.values.now ≡ task.problem.values
  pub numbering : numbering_of b ≡ atoms.numbering_of task

abbrev pub Answers : Task → Charges → Result GroundActions GroundRefusal → Result ℕ LimitCode → Type 0
Answers task charges (Ok x) answer = (answer ≡ Ok x.size) × (x.list ≡ map (ground_action task charges) (kept_instances task))
Answers task charges (Err (Limit code)) answer = answer ≡ Err code
Answers task charges (Err Memory) answer = Unit {0}
Answers task charges (Err _) answer = ⊥
