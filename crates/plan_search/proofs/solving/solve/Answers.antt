-- What was told of the rounds was told of the search whose certificate is written.
use Rattle.std.proofs.Common.{rules}
use Rattle.plan_search.proofs.lemmas.solver.Telling.{told_before_answer}
use Rattle.plan_search.proofs.solving.solve.Goals as goal

pub returns-in_err-closing-clause-told : goal.returns-in_err-closing-clause-told
returns-in_err-closing-clause-told g c = let told = c.search.ensures.told in (told.0, told.1, told.2, search rules)

pub returns-clause-told : goal.returns-clause-told
returns-clause-told g c =
    let told = c.in_ok-closing.ensures.told in (
      told.0,
      told.1,
      told.2,
      told_before_answer c.args.problem.now c.args.effort.now c.args.sizes.now c.in_ok-closing.closing told.0 told.3 c.answer_with.result c.answer_with.ensures.written,
    )
