-- Behind a server that no fault stopped, the answer is that of the search.
use Rattle.std.proofs.Common.{inl, rules, sym, subst, ◌∙◌}
use Rattle.plan_search.specs.solver.Told.{AreToldOf}
use Rattle.plan_search.proofs.Services.{ends_answering}
use Rattle.plan_search.proofs.lemmas.solver.Telling.{told_before_answer}
use Rattle.plan_search.proofs.serving.serve.Goals as goal

pub returns-in-None-clause-ends : goal.returns-in-None-clause-ends
returns-in-None-clause-ends g c =
    inl (ends_answering c.args.problem.now c.args.effort.now c.args.sizes.now _ _ c.in_ok-service.service.closing c.in_ok-service.service.served
    c.solver_sizes-table.result c.solver_sizes-table.ensures c.in_ok-service.ensures.served (sym c.stop_of.ensures ∙ c.in-None.is) c.answer_of.result c.answer_of.ensures.answer c.answer_of.ensures.stops)

pub returns-in_err-service-clause-told : goal.returns-in_err-service-clause-told
returns-in_err-service-clause-told g c = let told = c.serve.ensures.told in (told.0, told.1, told.2, search rules)

pub returns-in-Some-clause-told : goal.returns-in-Some-clause-told
returns-in-Some-clause-told g c = let told = c.in_ok-service.ensures.told in (told.0, told.1, told.2, search rules)

pub returns-in-None-clause-told : goal.returns-in-None-clause-told
returns-in-None-clause-told g c =
    let told = c.in_ok-service.ensures.told in (
      told.0,
      told.1,
      told.2,
      told_before_answer c.args.problem.now c.args.effort.now c.args.sizes.now c.in_ok-service.service.closing told.0
          (subst (λ z. AreToldOf c.args.problem.now z c.in_ok-service.service.closing told.0) c.solver_sizes-table.ensures told.3)
          c.answer_of.result c.answer_of.ensures.written,
    )
