-- The laws of the worth of numbers, by their lemmas.
use Rattle.bound_core.proofs.Worth.{sound_is_balanced, sound_covers, seen_covers, words_policy_is_within, word_names_its_act, published_are_inside}
use Rattle.bound_core.proofs.Rows.{rows_show_their_numbers}
use Rattle.bound_core.proofs.laws.core_laws.Goals as goal

pub returns-clause-balanced : goal.returns-clause-balanced
returns-clause-balanced c = sound_is_balanced

pub returns-clause-covers : goal.returns-clause-covers
returns-clause-covers c = sound_covers

pub returns-clause-seen : goal.returns-clause-seen
returns-clause-seen c = seen_covers

pub returns-clause-policy : goal.returns-clause-policy
returns-clause-policy c = words_policy_is_within

pub returns-clause-act : goal.returns-clause-act
returns-clause-act c = word_names_its_act

pub returns-clause-inside : goal.returns-clause-inside
returns-clause-inside c = published_are_inside

pub returns-clause-rows : goal.returns-clause-rows
returns-clause-rows c = rows_show_their_numbers
