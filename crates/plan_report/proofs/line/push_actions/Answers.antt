use Rattle.plan_report.proofs.Joining.{one_number}
use Rattle.plan_report.specs.Line.{action_text}
use Rattle.std.proofs.Common.{◌∙◌}
use Rattle.plan_report.proofs.line.push_actions.Goals as goal

pub loop-place-preserved : goal.loop-place-preserved
loop-place-preserved c =
    c.in_ok-push_action.ensures
    ∙ one_number (action_text c.args.seed) c.args.out.now.items c.loop-place.out.items c.loop-place.place c.loop-place.invariant
