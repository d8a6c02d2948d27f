-- The laws of narrower readings, by their lemmas.
use Rattle.cert_merge.proofs.Narrower.{narrower_is_balanced, narrower_interval_within}
use Rattle.cert_merge.proofs.laws.merge_laws.Goals as goal

pub returns-clause-balanced : goal.returns-clause-balanced
returns-clause-balanced g c p = narrower_is_balanced p

pub returns-clause-within : goal.returns-clause-within
returns-clause-within g c = narrower_interval_within
