-- The laws of steps, by their lemmas.
use Rattle.word_table.proofs.lemmas.rule.Looks.{lower_load_is_a_step, upper_load_is_a_step, count_load_is_a_step, held_load_is_a_step, empty_load_is_a_step, state_load_is_a_step}
use Rattle.word_table.proofs.lemmas.rule.Numbers.{raise_is_a_step, sink_is_a_step}
use Rattle.word_table.proofs.lemmas.rule.Ids.{step_keeps_the_rule, claim_is_a_step, write_is_a_step}
use Rattle.word_table.proofs.lemmas.rule.Seats.{split_is_a_step, one_right_is_a_step, join_is_a_step, rights_join_is_a_step}
use Rattle.word_table.proofs.lemmas.rule.Publishing.{publish_is_a_step}
use Rattle.word_table.proofs.rule.step_laws.Goals as goal

pub returns-clause-keeps : goal.returns-clause-keeps
returns-clause-keeps c = step_keeps_the_rule

pub returns-clause-lower_load : goal.returns-clause-lower_load
returns-clause-lower_load c = lower_load_is_a_step

pub returns-clause-upper_load : goal.returns-clause-upper_load
returns-clause-upper_load c = upper_load_is_a_step

pub returns-clause-raise : goal.returns-clause-raise
returns-clause-raise c = raise_is_a_step

pub returns-clause-sink : goal.returns-clause-sink
returns-clause-sink c = sink_is_a_step

pub returns-clause-count_load : goal.returns-clause-count_load
returns-clause-count_load c = count_load_is_a_step

pub returns-clause-claim : goal.returns-clause-claim
returns-clause-claim c = claim_is_a_step

pub returns-clause-write : goal.returns-clause-write
returns-clause-write c = write_is_a_step

pub returns-clause-held : goal.returns-clause-held
returns-clause-held c = held_load_is_a_step

pub returns-clause-empty : goal.returns-clause-empty
returns-clause-empty c = empty_load_is_a_step

pub returns-clause-state_load : goal.returns-clause-state_load
returns-clause-state_load c = state_load_is_a_step

pub returns-clause-publish : goal.returns-clause-publish
returns-clause-publish c = publish_is_a_step

pub returns-clause-split : goal.returns-clause-split
returns-clause-split c = split_is_a_step

pub returns-clause-one_right : goal.returns-clause-one_right
returns-clause-one_right c = one_right_is_a_step

pub returns-clause-join : goal.returns-clause-join
returns-clause-join c = join_is_a_step

pub returns-clause-rights_join : goal.returns-clause-rights_join
returns-clause-rights_join c = rights_join_is_a_step
