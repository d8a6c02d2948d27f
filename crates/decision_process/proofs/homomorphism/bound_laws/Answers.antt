-- The laws of bounds, by their lemmas.
use Rattle.decision_process.proofs.lemmas.homomorphism.Following.{lower_is_carried, upper_is_carried, lower_backup_is_carried, upper_backup_is_carried, down_is_carried, up_is_carried, balance_is_carried}
use Rattle.decision_process.proofs.lemmas.homomorphism.Starts.{plain_is_carried, interval_is_carried}
use Rattle.decision_process.proofs.lemmas.homomorphism.Certificates.{certificate_is_carried}
use Rattle.decision_process.proofs.homomorphism.bound_laws.Goals as goal

pub returns-clause-lower : goal.returns-clause-lower
returns-clause-lower g c = lower_is_carried

pub returns-clause-upper : goal.returns-clause-upper
returns-clause-upper g c = upper_is_carried

pub returns-clause-lower_backup : goal.returns-clause-lower_backup
returns-clause-lower_backup g c = lower_backup_is_carried

pub returns-clause-upper_backup : goal.returns-clause-upper_backup
returns-clause-upper_backup g c = upper_backup_is_carried

pub returns-clause-down : goal.returns-clause-down
returns-clause-down g c = down_is_carried

pub returns-clause-up : goal.returns-clause-up
returns-clause-up g c = up_is_carried

pub returns-clause-balance : goal.returns-clause-balance
returns-clause-balance g c = balance_is_carried

pub returns-clause-plain : goal.returns-clause-plain
returns-clause-plain g c = plain_is_carried

pub returns-clause-interval : goal.returns-clause-interval
returns-clause-interval g c = interval_is_carried

pub returns-clause-certificate : goal.returns-clause-certificate
returns-clause-certificate g c = certificate_is_carried
