-- The laws of tasks, by their lemmas.
use Rattle.ground_meaning.proofs.lemmas.progress.Tasks.{task_narrows, task_interval_narrows}
use Rattle.ground_meaning.proofs.progress.task_progress_laws.Goals as goal

pub returns-clause-states : goal.returns-clause-states
returns-clause-states c task charges = task_narrows task charges

pub returns-clause-starts : goal.returns-clause-starts
returns-clause-starts c task charges = task_interval_narrows task charges
