use Rattle.std.proofs.Common.{length, ap, arith}
use Rattle.kept_transitions.proofs.Unpacked.{length-all_unpacked}
use Rattle.kept_transitions.proofs.stored_actions.StoredActions.count.Goals as goal

pub returns : goal.returns
returns c =
    let k = c.self.inside in let long = length-all_unpacked k.bases.items k.stored.items in
    let same = ap length c.self.view_is in omega arith
