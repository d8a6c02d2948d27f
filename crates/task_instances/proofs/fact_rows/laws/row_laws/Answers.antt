use Rattle.task_instances.proofs.lemmas.fact_rows.Telling.{rows_tell, names_stay}
use Rattle.task_instances.proofs.fact_rows.laws.row_laws.Goals as goal

pub returns-clause-tell : goal.returns-clause-tell
returns-clause-tell c names w distinct apart atoms row is = rows_tell names w distinct apart row is atoms

pub returns-clause-names : goal.returns-clause-names
returns-clause-names c = names_stay
