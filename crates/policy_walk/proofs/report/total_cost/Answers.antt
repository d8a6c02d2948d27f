-- One walk more.
use Rattle.std.proofs.Common.{◌+◌, ◌≤◌, ap, sym, ◌∙◌, get_or, arith, rules}
use Rattle.policy_walk.specs.declared.ends.Walk.{Walk}
use Rattle.policy_walk.specs.declared.ends.WalkEnd.TheVariants.{Goal}
use Rattle.policy_walk.proofs.Sums.{one_more, fits}
use Rattle.policy_walk.proofs.report.total_cost.Goals as goal

none : Walk
none = record { end = Goal; steps = 0; cost = 0 }

pub overflow_add-total : goal.overflow_add-total
unfolding none
overflow_add-total c =
    let more = fits c.args.walks.now c.requires.few c.requires.costs c.loop-walk.walk-index none c.loop-walk-test.true in
    let bound : c.loop-walk.total + (get_or c.args.walks.now c.loop-walk.walk-index none).cost ≤ 10010000000000000000
    = omega (arith, c.loop-walk.invariant, more) in
    search (rules, bound)

pub loop-walk-preserved : goal.loop-walk-preserved
unfolding none
loop-walk-preserved c =
    ap (λ n. n + (get_or c.args.walks.now c.loop-walk.walk-index none).cost) c.loop-walk.invariant
    ∙ sym (one_more c.args.walks.now c.requires.few c.requires.costs c.loop-walk.walk-index none c.loop-walk-test.true)
