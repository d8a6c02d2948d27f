-- By the laws of ground problems that stand for tasks.
use Rattle.plan_app.proofs.lemmas.certificates.Carried.{is_carried, balance_is_carried, task_is_enclosed, task_policy_ends}
use Rattle.plan_app.proofs.lemmas.certificates.Named.{names_are_carried}
use Rattle.plan_app.proofs.certificates.task_certificate_laws.Goals as goal

pub returns-clause-carried : goal.returns-clause-carried
returns-clause-carried c = is_carried

pub returns-clause-names : goal.returns-clause-names
returns-clause-names c = names_are_carried

pub returns-clause-balance : goal.returns-clause-balance
returns-clause-balance c = balance_is_carried

pub returns-clause-encloses : goal.returns-clause-encloses
returns-clause-encloses c = task_is_enclosed

pub returns-clause-ends : goal.returns-clause-ends
returns-clause-ends c = task_policy_ends
