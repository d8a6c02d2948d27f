use Rattle.task_instances.proofs.lemmas.facts.Known.{known_by_table}
use Rattle.task_instances.proofs.facts.laws.fact_laws.Goals as goal

pub returns : goal.returns
returns c = known_by_table
