-- The laws by their lemmas.
use Rattle.policy_server.proofs.Grammar.{queries_are_read, only_queries_are_read}
use Rattle.policy_server.proofs.laws.query_laws.Goals as goal

pub returns : goal.returns
returns c = record { read = queries_are_read; only = only_queries_are_read }
