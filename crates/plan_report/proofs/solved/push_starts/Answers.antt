use Rattle.std.proofs.Common.{◌≡◌, ◌<◌, ◌∙◌, ◌++◌, ap, subst, rules, arith, length, get_or}
use Rattle.std.specs.Prelude.{List}
use Rattle.std.proofs.lemmas.Grind.{common_steps}
use Rattle.ground_model.specs.declared.start.Start.{Start}
use Rattle.bound_core.specs.ends.Closing.{closing_rows}
use Rattle.plan_report.specs.StartRows.{row_line}
use Rattle.plan_report.specs.Solved.{solved_line}
use Rattle.plan_report.proofs.Joining.{short_start}
use Rattle.plan_report.proofs.Known.{has_row, line_is}
use Rattle.plan_report.proofs.solved.push_starts.Goals as goal

pub bounds-rows-place : goal.bounds-rows-place
bounds-rows-place c =
    has_row c.args.problem.now c.args.rows.now c.requires.closing c.requires.starts c.starts-start-items.result.now c.starts-start-items.ensures.value
    c.loop-place.place c.start-item.result (search rules) c.start-item.is

pub push_start-requires : goal.push_start-requires
push_start-requires c =
    let i = c.loop-place.place in
    let within : i < length c.starts-start-items.result.now = search rules in
    short_start c.args.problem.now c.starts-start-items.ensures.valid i c.start-item.result
    (subst (λ (l : List Start). i < length l) c.starts-start-items.ensures.value within)
    (c.start-item.is ∙ ap (λ (l : List Start). get_or l i c.start-item.result) c.starts-start-items.ensures.value)

pub loop-place-preserved : goal.loop-place-preserved
loop-place-preserved c =
    let g = c.args.problem.now in let rows = c.args.rows.now in let x = c.start-item.result in let row = c.index-rows-place.result in
    let line : row_line g x row ≡ solved_line g (closing_rows rows) x
    = line_is g rows c.requires.closing c.requires.starts c.starts-start-items.result.now c.starts-start-items.ensures.value
    c.loop-place.place x (search rules) c.start-item.is row c.index-rows-place.is in
    let pushed = c.in_ok-push_start.ensures ∙ ap (λ l. c.loop-place.out.items ++ l) line in
    grind (arith, common_steps, pushed)
