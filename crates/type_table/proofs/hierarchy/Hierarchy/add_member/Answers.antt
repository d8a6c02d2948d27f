use Rattle.std.proofs.Common.{length, get_or, ap, arith}
use Rattle.std.proofs.lemmas.List.Elements.{Contains-get_or}
use Rattle.type_table.specs.Above.{rows_of}
use Rattle.type_table.specs.Rows.{row_at}
use Rattle.type_table.specs.Types.{type_names}
use Rattle.type_table.proofs.hierarchy.Hierarchy.add_member.Goals as goal

pub add_member-requires-clause-within : goal.add_member-requires-clause-within
add_member-requires-clause-within c k d below =
    let h = c.self.inside in
    let row = row_at (rows_of h.above) c.args.kind in
    let names = ap type_names c.self.view_is in
    let is = c.self.invariant.each c.args.kind (omega (arith, c.requires.kind, ap length names, ap length c.self.invariant.named)) in
    omega (arith, is.within (get_or row k d) (Contains-get_or row k d below), c.requires.many, ap length names)
