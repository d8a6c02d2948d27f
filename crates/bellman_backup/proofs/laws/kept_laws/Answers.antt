-- The law by its lemma.
use Rattle.bellman_backup.proofs.KeptRows.{kept_is_kept_later}
use Rattle.bellman_backup.proofs.laws.kept_laws.Goals as goal

pub returns : goal.returns
returns c = record { later = kept_is_kept_later }
