-- The laws of places, by their lemmas.
use Rattle.word_table.proofs.lemmas.layout.Places.{state_words_are_within, state_words_differ, turns_are_buckets}
use Rattle.word_table.proofs.layout.laws.layout_laws.Goals as goal

pub returns-clause-within : goal.returns-clause-within
returns-clause-within c = state_words_are_within

pub returns-clause-differ : goal.returns-clause-differ
returns-clause-differ c = state_words_differ

pub returns-clause-turns : goal.returns-clause-turns
returns-clause-turns c = turns_are_buckets
