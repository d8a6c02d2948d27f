-- The laws of sweeps, by their lemmas.
use Rattle.decision_process.proofs.lemmas.sweeps.Rounds.{wider_is_backed_up, narrower_has_rounds, rounds_begin, round_goes_on, starts_have_rounds, means_have_rounds}
use Rattle.decision_process.proofs.sweeps.sweep_laws.Goals as goal

pub returns-clause-wider : goal.returns-clause-wider
returns-clause-wider g c p = wider_is_backed_up p

pub returns-clause-narrower : goal.returns-clause-narrower
returns-clause-narrower g c p starts = narrower_has_rounds p starts

pub returns-clause-begin : goal.returns-clause-begin
returns-clause-begin g c p starts = rounds_begin p starts

pub returns-clause-goes_on : goal.returns-clause-goes_on
returns-clause-goes_on g c p starts = round_goes_on p starts

pub returns-clause-states : goal.returns-clause-states
returns-clause-states g c p starts = starts_have_rounds p starts

pub returns-clause-means : goal.returns-clause-means
returns-clause-means g c p starts = means_have_rounds p starts
