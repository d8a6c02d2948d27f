-- The laws of what is carried, by their lemmas.
use Rattle.decision_process.proofs.lemmas.under.Carried.{under_is_carried, under_mean_is_carried}
use Rattle.decision_process.proofs.under.carried_laws.Goals as goal

pub returns-clause-under : goal.returns-clause-under
returns-clause-under g c = under_is_carried

pub returns-clause-mean : goal.returns-clause-mean
returns-clause-mean g c = under_mean_is_carried
