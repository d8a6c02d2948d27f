use Rattle.std.proofs.Common.{◌<◌, ◌∙◌, ap, get_or, length, subst}
use Rattle.ground_model.specs.declared.start.Start.{Start}
use Rattle.std.specs.Prelude.{List}
use Rattle.plan_report.proofs.Joining.{short_start}
use Rattle.plan_report.proofs.grounded.push_starts.Goals as goal

pub push_start-requires : goal.push_start-requires
push_start-requires c =
    let i = c.loop-start.start-index in
    short_start c.args.problem.now c.atoms.ensures.valid i c.start-item.result
    (subst (λ (l : List Start). i < length l) c.starts-start-items.ensures.value c.loop-start-test.true)
    (c.start-item.is ∙ ap (λ (l : List Start). get_or l i c.start-item.result) c.starts-start-items.ensures.value)
