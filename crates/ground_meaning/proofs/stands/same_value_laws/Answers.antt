-- The laws of bounds and certificates, by their lemmas.
use Rattle.ground_meaning.proofs.lemmas.stands.Same.{same_down, same_up, same_plain, same_balance, same_certificate}
use Rattle.ground_meaning.proofs.stands.same_value_laws.Goals as goal

pub returns-clause-down : goal.returns-clause-down
returns-clause-down c = same_down

pub returns-clause-up : goal.returns-clause-up
returns-clause-up c = same_up

pub returns-clause-plain : goal.returns-clause-plain
returns-clause-plain c = same_plain

pub returns-clause-balance : goal.returns-clause-balance
returns-clause-balance c = same_balance

pub returns-clause-certificate : goal.returns-clause-certificate
returns-clause-certificate c = same_certificate
