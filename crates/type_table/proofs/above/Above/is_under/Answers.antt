use Rattle.std.proofs.Common.{◌≡◌, ◌<◌, ◌∙◌, length, nat_eq, ap, sym, arith, ◌||◌, ne_eqb}
use Rattle.std.specs.List.{list_any}
use Rattle.type_table.specs.Above.{rows_of}
use Rattle.type_table.specs.Forest.{upward_path}
use Rattle.type_table.specs.Rows.{row_at}
use Rattle.type_table.proofs.Rounds.{many_paths, path_row}
use Rattle.type_table.proofs.above.Above.is_under.Goals as goal

pub leads_to-requires-clause-kind : goal.leads_to-requires-clause-kind
leads_to-requires-clause-kind c = omega (arith, c.requires.kind, ap (λ a. length (rows_of a)) c.in-Single.is, many_paths c.in-Single.forest)

pub leads_to-requires-clause-other : goal.leads_to-requires-clause-other
leads_to-requires-clause-other c = omega (arith, c.requires.other, ap (λ a. length (rows_of a)) c.in-Single.is, many_paths c.in-Single.forest)

pub returns-else-other-eq0 : goal.returns-else-other-eq0
returns-else-other-eq0 c =
    let forest = c.in-Single.forest in
    let other = c.args.other in
    let below : c.args.kind < length forest.parents = omega (arith, c.requires.kind, ap (λ a. length (rows_of a)) c.in-Single.is, many_paths forest) in
    let row : row_at (rows_of c.args.self.now) c.args.kind ≡ upward_path forest.parents forest.ranks c.args.kind =
    ap (λ a. row_at (rows_of a) c.args.kind) c.in-Single.is ∙ path_row forest c.args.kind below in
    c.leads_to.ensures ∙ sym (λ i. ne_eqb other 0 c.if-other-eq0.false i || list_any (λ x. nat_eq x other) (row i))
