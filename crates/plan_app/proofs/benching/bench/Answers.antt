-- The ground problem of the line, and what a search of it tells.
use Rattle.std.proofs.Common.{◌≡◌, rules, refl, sym, ap, ◌∙◌, subst, Ok, Err}
use Rattle.plan_sources.specs.Endings.{MayEnd}
use Rattle.plan_sources.specs.Problems.{one_text, problem_of}
use Rattle.plan_sources.proofs.Taking.{stops_whole}
use Rattle.plan_app.specs.Endings.{AnswersBench, said_by}
use Rattle.plan_search.specs.Answers.{IsMeasuredOf}
use Rattle.plan_app.specs.Measuring.{line_sources, line_problem, bench_sizes}
use Rattle.plan_report.specs.Line.{line_text}
use Rattle.plan_app.proofs.Names.{problem_names}
use Rattle.plan_app.proofs.Solved.{line_terms}
use Rattle.plan_app.proofs.benching.bench.Goals as goal

pub measure-requires-clause-names : goal.measure-requires-clause-names
measure-requires-clause-names g c κs within =
    let is = subst (λ text. problem_of line_sources (one_text text) ≡ Ok c.in_ok-problem.problem) c.in_ok-text.ensures c.in_ok-problem.ensures in
    problem_names c.source_laws.ensures.stands line_sources (one_text (line_text c.args.places c.args.seed)) c.in_ok-problem.problem line_terms is

pub returns-in_err-problem : goal.returns-in_err-problem
returns-in_err-problem g c =
    let e = c.in_err-problem.field-0.0 in
    let ends = subst (λ text. MayEnd ⊥ (λ r. problem_of line_sources (one_text text) ≡ r) (Err e)) c.in_ok-text.ensures c.in_err-problem.ensures in
    let stop = stops_whole ⊥ ⊥ (λ r. line_problem c.args.places c.args.seed ≡ r) (AnswersBench c.args.places c.args.seed)
    (λ never. never) (λ stop is. (Err stop, is, refl)) e ends in
    search (rules, stop)

pub returns : goal.returns
returns g c =
    let is = subst (λ text. problem_of line_sources (one_text text) ≡ Ok c.in_ok-problem.problem) c.in_ok-text.ensures c.in_ok-problem.ensures in (
      Ok c.in_ok-problem.problem,
      is,
      record {
        measured = c.in_ok-measured.measured;
        is_measured = subst (λ x. IsMeasuredOf c.in_ok-problem.problem x bench_sizes c.in_ok-measured.measured) c.effort.ensures
            (subst (λ x. IsMeasuredOf c.in_ok-problem.problem c.effort.result x c.in_ok-measured.measured) c.sizes.ensures c.in_ok-measured.ensures);
        says = ap Ok (ap (λ text. said_by c.in_ok-measured.measured.converged text) (sym c.in_ok-report.ensures) ∙ sym c.said.ensures);
      },
    )
