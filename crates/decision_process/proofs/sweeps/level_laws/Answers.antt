-- The laws of levels, by their lemmas.
use Rattle.decision_process.proofs.lemmas.sweeps.Near.{outcome_is_successor, start_is_near, successor_is_near, near_is_start_or_successor, near_grows}
use Rattle.decision_process.proofs.sweeps.level_laws.Goals as goal

pub returns-clause-starts : goal.returns-clause-starts
returns-clause-starts g c p starts = start_is_near p starts

pub returns-clause-successors : goal.returns-clause-successors
returns-clause-successors g c p starts = successor_is_near p starts

pub returns-clause-cases : goal.returns-clause-cases
returns-clause-cases g c p starts = near_is_start_or_successor p starts

pub returns-clause-outcomes : goal.returns-clause-outcomes
returns-clause-outcomes g c p = outcome_is_successor p

pub returns-clause-grows : goal.returns-clause-grows
returns-clause-grows g c p starts = near_grows p starts
