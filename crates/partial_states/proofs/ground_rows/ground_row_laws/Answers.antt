-- The laws of partial rows of a ground problem, by their lemmas.
use Rattle.partial_states.proofs.lemmas.ground_rows.Lying.{lying_is_admitted}
use Rattle.partial_states.proofs.lemmas.ground_rows.Taken.{ground_rows_are_super_solution}
use Rattle.partial_states.proofs.ground_rows.ground_row_laws.Goals as goal

pub returns-clause-lies : goal.returns-clause-lies
returns-clause-lies c = lying_is_admitted

pub returns-clause-upper : goal.returns-clause-upper
returns-clause-upper c g is = ground_rows_are_super_solution g is
