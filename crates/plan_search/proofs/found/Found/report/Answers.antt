-- The certificate and the rows say the same of each start.
use Rattle.std.proofs.Common.{◌≡◌, ◌∙◌, ap, subst}
use Rattle.std.specs.Prelude.{IfOk, List, ℕ}
use Rattle.bound_core.specs.ends.Closing.{closing_rows}
use Rattle.plan_report.specs.Solved.{solve_text, solved_of}
use Rattle.plan_search.proofs.Replies.{one_report}
use Rattle.plan_search.proofs.found.Found.report.Goals as goal

pub returns : goal.returns
returns c =
    let g = c.args.problem.now in let left = c.args.self.now.closing in
    let same = ap (λ ids. solve_text g (closing_rows left.image.rows) (solved_of g left.image.rows left.image.given_out ids c.args.effort.now.gap left.rounds)) c.all_ids.ensures
    ∙ one_report g c.args.effort.now c.args.sizes.now c.args.self.now c.requires.found c.report_laws.ensures in
    subst (λ (t : List ℕ). IfOk c.solve_report.result (λ report. report ≡ t)) same c.solve_report.ensures
