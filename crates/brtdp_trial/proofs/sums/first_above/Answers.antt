use Rattle.std.proofs.Common.{◌+◌, ◌≤◌, ◌^◌, arith, rules, below_more}
use Rattle.brtdp_trial.proofs.Spreads.{spreads_more, spreads_part, spreads_below, not_last}
use Rattle.brtdp_trial.proofs.sums.first_above.Goals as goal

pub overflow_add-running : goal.overflow_add-running
overflow_add-running g c =
    let xs = g.L.HasSteps.list c.args.steps.now in
    let more = spreads_more xs (c.loop-running.index + 1) c.at-in-loop-running.result c.at-in-loop-running.ensures in
    let part = spreads_part xs (c.loop-running.index + 1 + 1) in
    let below = spreads_below xs c.requires.intervals c.requires.whole in
    let bound : c.loop-running.running + c.spread-running-in-loop-running.result ≤ 10 ^ 32 = omega (arith, c.loop-running.invariant.0, more, part, below, c.spread-running-in-loop-running.ensures) in
    search (rules, bound)

pub loop-running-preserved : goal.loop-running-preserved
loop-running-preserved g c =
    let xs = g.L.HasSteps.list c.args.steps.now in
    let more = spreads_more xs (c.loop-running.index + 1) c.at-in-loop-running.result c.at-in-loop-running.ensures in (
      omega (arith, c.loop-running.invariant.0, more, c.spread-running-in-loop-running.ensures),
      not_last xs c.loop-running.index c.args.rest c.loop-running.running c.loop-running.invariant.0 c.loop-running-test.true c.requires.below,
      below_more _ _ c.loop-running.invariant.2 (omega (arith, c.loop-running.invariant.0, c.loop-running-test.true)),
    )
