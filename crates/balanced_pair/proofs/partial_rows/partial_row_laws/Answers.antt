-- The laws of partial rows, by their lemmas.
use Rattle.balanced_pair.proofs.lemmas.partial_rows.Supported.{partial_high_is_least, partial_rows_are_super_solution}
use Rattle.balanced_pair.proofs.partial_rows.partial_row_laws.Goals as goal

pub returns-clause-least : goal.returns-clause-least
returns-clause-least g c p = partial_high_is_least p

pub returns-clause-upper : goal.returns-clause-upper
returns-clause-upper g c p = partial_rows_are_super_solution p
