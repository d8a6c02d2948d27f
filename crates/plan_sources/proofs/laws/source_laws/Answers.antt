use Rattle.plan_sources.proofs.Stopping.{texts_stop_so}
use Rattle.plan_sources.proofs.Telling.{one_problem_is_told}
use Rattle.plan_sources.proofs.Refusing.{texts_are_refused_so}
use Rattle.plan_sources.proofs.Standing.{problem_stands}
use Rattle.plan_sources.proofs.laws.source_laws.Goals as goal

pub returns-clause-told : goal.returns-clause-told
returns-clause-told c = one_problem_is_told

pub returns-clause-stops : goal.returns-clause-stops
returns-clause-stops c = texts_stop_so

pub returns-clause-refused : goal.returns-clause-refused
returns-clause-refused c = texts_are_refused_so c.text_laws.ensures.derived c.text_laws.ensures.accepted

pub returns-clause-stands : goal.returns-clause-stands
returns-clause-stands c = problem_stands c.text_laws.ensures.derived c.task_laws.ensures.well_formed c.task_laws.ensures.names c.grounding_laws.ensures.stands c.grounding_laws.ensures.names
