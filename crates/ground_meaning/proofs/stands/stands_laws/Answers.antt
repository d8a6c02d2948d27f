-- The laws of what stands for what, by their lemmas.
use Rattle.ground_meaning.proofs.lemmas.stands.Standing.{is_carried, starts_are_carried, weights_are_positive, states_are_found}
use Rattle.ground_meaning.proofs.stands.stands_laws.Goals as goal

pub returns-clause-process : goal.returns-clause-process
returns-clause-process c = is_carried

pub returns-clause-starts : goal.returns-clause-starts
returns-clause-starts c = starts_are_carried

pub returns-clause-weights : goal.returns-clause-weights
returns-clause-weights c = weights_are_positive

pub returns-clause-back : goal.returns-clause-back
returns-clause-back c = states_are_found
