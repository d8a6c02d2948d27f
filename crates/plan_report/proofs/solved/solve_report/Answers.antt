use Rattle.std.proofs.Common.{◌++◌, ◌∙◌, ap, length}
use Rattle.std.specs.Prelude.{codes}
use Rattle.std.specs.List.{flat_map}
use Rattle.bound_core.specs.ends.Closing.{closing_rows}
use Rattle.bound_core.specs.ends.Ends.{closing_low, closing_high}
use Rattle.plan_report.specs.Reports.{counted_line, interval_line}
use Rattle.plan_report.specs.Solved.{ending_line, ending_of, solved_line}
use Rattle.plan_report.proofs.solved.solve_report.Goals as goal

pub returns : goal.returns
returns c =
    let g = c.args.problem.now in let rows = c.as_slice-rows.ensures in
    let lower = c.ends_of-ends.ensures.ends.0 ∙ ap (closing_low g) rows in
    let upper = c.ends_of-ends.ensures.ends.1 ∙ ap (closing_high g) rows in
    let ending = c.ending_of.ensures ∙ (λ j. ending_of c.args.gap (lower j) (upper j) c.args.image.now.given_out c.args.ids) in
    let first = c.in_ok-push_ending.ensures ∙ (λ j. c.new-out.ensures.items j ++ ending_line (ending j)) in
    let interval = c.in_ok-push_interval.ensures ∙ (λ j. first j ++ interval_line (lower j) (upper j)) in
    let states = c.in_ok-push_counted.ensures ∙ (λ j. interval j ++ counted_line (codes "states ") (length (rows j))) in
    let rounds = c.in_ok-push_counted-2.ensures ∙ (λ j. states j ++ counted_line (codes "rounds ") (c.from.ensures j)) in
    let starts = c.in_ok-push_starts.ensures ∙ (λ j. rounds j ++ flat_map (solved_line g (closing_rows (rows j))) g.starts) in
    c.from_vec.ensures ∙ starts
