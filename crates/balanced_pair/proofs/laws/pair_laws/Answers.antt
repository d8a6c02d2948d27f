-- The laws of balanced pairs, by their lemmas.
use Rattle.balanced_pair.proofs.Halves.{halves_are_balanced}
use Rattle.balanced_pair.proofs.Rows.{rows_are_balanced, certificate_encloses}
use Rattle.balanced_pair.proofs.Plain.{plain_is_balanced, plain_reads_alike, balanced_is_over_plain}
use Rattle.balanced_pair.proofs.Order.{low_is_within_high}
use Rattle.balanced_pair.proofs.laws.pair_laws.Goals as goal

pub returns-clause-halves : goal.returns-clause-halves
returns-clause-halves g c p = halves_are_balanced p

pub returns-clause-plain : goal.returns-clause-plain
returns-clause-plain g c p = plain_is_balanced p

pub returns-clause-rows : goal.returns-clause-rows
returns-clause-rows g c p = rows_are_balanced p

pub returns-clause-encloses : goal.returns-clause-encloses
returns-clause-encloses g c p = certificate_encloses p

pub returns-clause-alike : goal.returns-clause-alike
returns-clause-alike g c p = plain_reads_alike p

pub returns-clause-over_plain : goal.returns-clause-over_plain
returns-clause-over_plain g c p = balanced_is_over_plain p

pub returns-clause-ordered : goal.returns-clause-ordered
returns-clause-ordered g c p = low_is_within_high p
