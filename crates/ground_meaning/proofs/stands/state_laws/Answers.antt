-- The laws of states, by their lemmas.
use Rattle.ground_meaning.proofs.lemmas.stands.Texts.{changing_by_bits, others_by_facts}
use Rattle.ground_meaning.proofs.stands.state_laws.Goals as goal

pub returns-clause-changing : goal.returns-clause-changing
returns-clause-changing c = changing_by_bits

pub returns-clause-others : goal.returns-clause-others
returns-clause-others c = others_by_facts
