-- By the order of rows, and by the laws of decision processes at the process of the problem.
use Rattle.certificate_check.proofs.Distinct.{states_differ}
use Rattle.certificate_check.proofs.Ending.{balanced_encloses, ends}
use Rattle.certificate_check.proofs.Verdicts.{verdict_tells}
use Rattle.certificate_check.proofs.laws.check_laws.Goals as goal

pub returns-clause-distinct : goal.returns-clause-distinct
returns-clause-distinct c = states_differ

pub returns-clause-accepted : goal.returns-clause-accepted
returns-clause-accepted c = verdict_tells

pub returns-clause-encloses : goal.returns-clause-encloses
returns-clause-encloses c = balanced_encloses

pub returns-clause-ends : goal.returns-clause-ends
returns-clause-ends c = ends
