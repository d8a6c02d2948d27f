use Rattle.std.proofs.Common.{◌≡◌, ◌+◌, ◌≤◌, ◌^◌, arith, rules}
use Rattle.brtdp_trial.proofs.Spreads.{spreads_more, spreads_part, spreads_below}
use Rattle.brtdp_trial.proofs.sums.total_of.Goals as goal

pub overflow_add-total : goal.overflow_add-total
overflow_add-total g c =
    let xs = g.L.HasSteps.list c.args.steps.now in
    let more = spreads_more xs c.loop-i.i c.at.result c.at.ensures in
    let part = spreads_part xs (c.loop-i.i + 1) in
    let below = spreads_below xs c.requires.intervals c.requires.whole in
    let is : c.spread-total.result ≡ _ = c.spread-total.ensures in
    let bound : c.loop-i.total + c.spread-total.result ≤ 10 ^ 32 = omega (arith, c.loop-i.invariant, more, part, below, is) in
    search (rules, bound)

pub loop-i-preserved : goal.loop-i-preserved
loop-i-preserved g c =
    let xs = g.L.HasSteps.list c.args.steps.now in
    let more = spreads_more xs c.loop-i.i c.at.result c.at.ensures in
    omega (arith, c.loop-i.invariant, more, c.spread-total.ensures)

pub returns-clause-bounded : goal.returns-clause-bounded
returns-clause-bounded g c =
    let xs = g.L.HasSteps.list c.args.steps.now in
    let part = spreads_part xs c.loop-i.i in
    let below = spreads_below xs c.requires.intervals c.requires.whole in
    omega (arith, c.loop-i.invariant, part, below)
