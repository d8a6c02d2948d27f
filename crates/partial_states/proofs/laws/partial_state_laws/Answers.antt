-- The laws of partial states, by their lemmas.
use Rattle.partial_states.proofs.Facts.{every_known_holds, every_next_is_admitted, every_held_is_picked, every_held_is_decided, every_cost_is_picked}
use Rattle.partial_states.proofs.laws.partial_state_laws.Goals as goal

pub returns-clause-known : goal.returns-clause-known
returns-clause-known c = every_known_holds

pub returns-clause-next : goal.returns-clause-next
returns-clause-next c = every_next_is_admitted

pub returns-clause-picked : goal.returns-clause-picked
returns-clause-picked c = every_held_is_picked

pub returns-clause-decided : goal.returns-clause-decided
returns-clause-decided c = every_held_is_decided

pub returns-clause-cost : goal.returns-clause-cost
returns-clause-cost c = every_cost_is_picked
