-- The laws of ground problems, by their lemmas.
use Rattle.ground_meaning.proofs.lemmas.progress.Problems.{ground_narrows, ground_interval_narrows}
use Rattle.ground_meaning.proofs.progress.ground_progress_laws.Goals as goal

pub returns-clause-states : goal.returns-clause-states
returns-clause-states c = ground_narrows

pub returns-clause-starts : goal.returns-clause-starts
returns-clause-starts c = ground_interval_narrows
