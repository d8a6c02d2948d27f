use Rattle.ppddl_reader.specs.problems.Problems.{problem}
use Rattle.ppddl_reader.specs.tasks.Texts.{with_problem}
use Rattle.ppddl_reader.proofs.lemmas.tasks.Refusals.{giving_refuses}
use Rattle.ppddl_reader.proofs.tasks.definitions.read_problem_body.Goals as goal

pub returns-in-Err-clause-gives : goal.returns-in-Err-clause-gives
returns-in-Err-clause-gives c =
    giving_refuses (with_problem c.args.domain c.args.domain_file) (problem c.args.name c.args.domain.name c.args.names) c.in-Err.refusal c.args.cursor.now
    (rw c.as_slice.ensures at c.in-Err.ensures.gives)
