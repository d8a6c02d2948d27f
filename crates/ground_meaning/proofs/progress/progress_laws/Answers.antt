-- The laws of progress, by their lemmas.
use Rattle.ground_meaning.proofs.lemmas.progress.Progress.{up_narrows_to_down}
use Rattle.ground_meaning.proofs.lemmas.progress.Means.{interval_narrows}
use Rattle.ground_meaning.proofs.progress.progress_laws.Goals as goal

pub returns-clause-states : goal.returns-clause-states
returns-clause-states g c p = up_narrows_to_down p

pub returns-clause-starts : goal.returns-clause-starts
returns-clause-starts g c p = interval_narrows p
