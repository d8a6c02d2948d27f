use Rattle.std.proofs.Common.{IfOk, subst}
use Rattle.std.proofs.lemmas.Result.{err_from_is_err_and}
use Rattle.ppddl_model.specs.declared.tree.Task.{Task}
use Rattle.ground_meaning.specs.refusals.Limits.{grounded}
use Rattle.grounder.specs.Answers.{terms_of, Answers, StandsFor}
use Rattle.grounder.proofs.Limiting.{handed_on}
use Rattle.grounder.proofs.answering.ground.Goals as goal

pub returns-in_err-early-clause-exact : goal.returns-in_err-early-clause-exact
returns-in_err-early-clause-exact c =
    let p = err_from_is_err_and c.from_residual.result c.from_residual.ensures.1 in
    handed_on (λ r. Answers r (grounded c.args.task.now (terms_of c.args.terms.now))) c.from_residual.result c.in_err-early.field-0.0
    p.0 p.1 p.2 c.in_err-early.ensures

pub returns-clause-stands : goal.returns-clause-stands
returns-clause-stands c =
    subst (λ (t : Task). IfOk c.ground_facts-problem.result (λ g. StandsFor g t (terms_of c.args.terms.now))) c.in_ok-facts.ensures
    c.ground_facts-problem.ensures.stands
