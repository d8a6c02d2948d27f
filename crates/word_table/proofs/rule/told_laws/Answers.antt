-- The laws of what is told, by their lemmas.
use Rattle.word_table.proofs.lemmas.rule.Told.{lower_is_told, upper_is_told, count_is_told, held_is_told, empty_is_told, states_are_told, one_state_is_told}
use Rattle.word_table.proofs.rule.told_laws.Goals as goal

pub returns-clause-lower : goal.returns-clause-lower
returns-clause-lower c = lower_is_told

pub returns-clause-upper : goal.returns-clause-upper
returns-clause-upper c = upper_is_told

pub returns-clause-count : goal.returns-clause-count
returns-clause-count c = count_is_told

pub returns-clause-held : goal.returns-clause-held
returns-clause-held c = held_is_told

pub returns-clause-empty : goal.returns-clause-empty
returns-clause-empty c = empty_is_told

pub returns-clause-states : goal.returns-clause-states
returns-clause-states c = states_are_told

pub returns-clause-one_state : goal.returns-clause-one_state
returns-clause-one_state c = one_state_is_told
