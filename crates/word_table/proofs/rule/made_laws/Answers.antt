-- The laws of tables as they are made, by their lemmas.
use Rattle.word_table.proofs.lemmas.rule.Made.{made_holds}
use Rattle.word_table.proofs.lemmas.rule.Putting.{put_is_made}
use Rattle.word_table.proofs.rule.made_laws.Goals as goal

pub returns-clause-made : goal.returns-clause-made
returns-clause-made c = made_holds

pub returns-clause-put : goal.returns-clause-put
returns-clause-put c = put_is_made
