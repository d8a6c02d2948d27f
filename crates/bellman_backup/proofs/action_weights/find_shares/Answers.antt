use Rattle.std.proofs.Common.{sym}
use Rattle.applicable_actions.specs.distinct.Enough.{RepeatsLast}
use Rattle.bellman_backup.proofs.PlacedWeights.{last_is_placed}
use Rattle.bellman_backup.proofs.action_weights.find_shares.Goals as goal

pub returns-in-Some : goal.returns-in-Some
returns-in-Some c =
    let repeats : RepeatsLast c.args.index.now.actions c.args.code = c.repeats.ensures c.if-repeats.true in
    last_is_placed c.args.index.now.actions c.args.code c.args.action.now c.args.spans.now c.in-Some.last.now c.args.shares.now.items
    c.requires.placed repeats c.requires.coded (sym c.in-Some.ensures.value)
