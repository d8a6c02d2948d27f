use Rattle.std.proofs.Common.{rules}
use Rattle.type_table.proofs.RowSteps.{vector_pushed}
use Rattle.type_table.proofs.rows.push_to.Goals as goal

pub returns : goal.returns
returns c =
    vector_pushed c.args.rows.now.items c.args.kind c.args.number c.index_mut.result.now c.push.new.self c.requires (search rules) c.in_ok-push.ensures.items
