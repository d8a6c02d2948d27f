-- The laws of what is seen, by their lemmas.
use Rattle.word_table.proofs.lemmas.view.Seen.{seen_lower_is_greatest, seen_upper_is_least, raised_is_seen, sunk_is_seen}
use Rattle.word_table.proofs.view.laws.seen_laws.Goals as goal

pub returns-clause-lower : goal.returns-clause-lower
returns-clause-lower c = seen_lower_is_greatest

pub returns-clause-upper : goal.returns-clause-upper
returns-clause-upper c = seen_upper_is_least

pub returns-clause-raised : goal.returns-clause-raised
returns-clause-raised c = raised_is_seen

pub returns-clause-sunk : goal.returns-clause-sunk
returns-clause-sunk c = sunk_is_seen
