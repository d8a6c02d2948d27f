-- The laws of events, by their lemmas.
use Rattle.bound_core.proofs.Keeping.{first_is_sound, keeps_sound, keep_sound}
use Rattle.bound_core.proofs.Narrowing.{narrows, narrows_later}
use Rattle.bound_core.proofs.laws.event_laws.Goals as goal

pub returns-clause-first : goal.returns-clause-first
returns-clause-first c = first_is_sound

pub returns-clause-event : goal.returns-clause-event
returns-clause-event c = keeps_sound

pub returns-clause-events : goal.returns-clause-events
returns-clause-events c = keep_sound

pub returns-clause-narrows : goal.returns-clause-narrows
returns-clause-narrows c = narrows

pub returns-clause-narrows_later : goal.returns-clause-narrows_later
returns-clause-narrows_later c = narrows_later
