-- What is carried, by its lemma.
use Rattle.policy_graph.proofs.Reaching.{reached_there}
use Rattle.policy_graph.proofs.carried.carried_laws.Goals as goal

pub returns : goal.returns
returns g c = reached_there
