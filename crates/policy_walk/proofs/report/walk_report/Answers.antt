-- One line more.
use Rattle.std.proofs.Common.{◌++◌, ap, sym, ◌∙◌, get_or}
use Rattle.policy_walk.specs.declared.ends.Walk.{Walk}
use Rattle.policy_walk.specs.declared.ends.WalkEnd.TheVariants.{Goal}
use Rattle.policy_walk.specs.Reports.{walk_line}
use Rattle.policy_walk.proofs.Sums.{one_line}
use Rattle.policy_walk.proofs.report.walk_report.Goals as goal

none : Walk
none = record { end = Goal; steps = 0; cost = 0 }

pub loop-number-preserved : goal.loop-number-preserved
unfolding none
loop-number-preserved c =
    c.in_ok-push_walk.ensures
    ∙ ap (λ l. l ++ walk_line c.loop-number.number (get_or c.args.walks.now c.loop-number.number none)) c.loop-number.invariant
    ∙ sym (one_line c.loop-number.number c.args.walks.now none c.loop-number-test.true)
