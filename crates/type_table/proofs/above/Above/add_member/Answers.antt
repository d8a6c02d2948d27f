use Rattle.std.proofs.Common.{◌≡◌, ◌<◌, ◌∙◌, true, false, length, map, ap, sym, subst, arith, rules}
use Rattle.type_table.specs.Above.{rows_of}
use Rattle.type_table.specs.Forest.{upward_path}
use Rattle.type_table.specs.Reading.{items_of}
use Rattle.type_table.specs.Rows.{row_at, EachRow, IsMember}
use Rattle.type_table.proofs.MemberSteps.{is_in, member_there, member_pushed}
use Rattle.type_table.proofs.Rounds.{many_paths, path_row}
use Rattle.type_table.proofs.above.Above.add_member.Goals as goal

pub add_up-requires-clause-kind : goal.add_up-requires-clause-kind
add_up-requires-clause-kind c = omega (arith, c.requires.kind, ap (λ a. length (rows_of a)) c.in-Single.is, many_paths c.in-Single.forest)

pub add_up-requires-clause-many : goal.add_up-requires-clause-many
add_up-requires-clause-many c = c.requires.many ∙ ap (λ a. length (rows_of a)) c.in-Single.is ∙ many_paths c.in-Single.forest

pub leads_to-requires-clause-kind : goal.leads_to-requires-clause-kind
leads_to-requires-clause-kind c = omega (arith, c.requires.kind, ap (λ a. length (rows_of a)) c.in-Single.is, many_paths c.in-Single.forest)

pub returns-in_ok-push_to-in-Single : goal.returns-in_ok-push_to-in-Single
returns-in_ok-push_to-in-Single c =
    let forest = c.in-Single.forest in
    let old = map items_of c.args.members.now.items in
    let n = length c.args.members.now.items in
    let full = upward_path forest.parents forest.ranks c.args.kind in
    let below : c.args.kind < length forest.parents = omega (arith, c.requires.kind, ap (λ a. length (rows_of a)) c.in-Single.is, many_paths forest) in
    let row : row_at (rows_of c.args.self.now) c.args.kind ≡ full = ap (λ a. row_at (rows_of a) c.args.kind) c.in-Single.is ∙ path_row forest c.args.kind below in
    let new : is_in full 0 ≡ false = search rules in
    subst (λ r. EachRow n (IsMember old r c.args.object) (map items_of c.push_to.new.rows.items)) (sym row)
    (subst (EachRow n (IsMember old full c.args.object)) (sym c.in_ok-push_to-in-Single.ensures)
    (member_pushed old n full c.args.object (map items_of c.add_up.new.members.items) (omega (arith, below, c.requires.many, ap (λ a. length (rows_of a)) c.in-Single.is, many_paths forest)) new c.in_ok-add_up-in-Single.ensures))

pub returns-else-not-leads_to : goal.returns-else-not-leads_to
returns-else-not-leads_to c =
    let forest = c.in-Single.forest in
    let old = map items_of c.args.members.now.items in
    let n = length c.args.members.now.items in
    let full = upward_path forest.parents forest.ranks c.args.kind in
    let below : c.args.kind < length forest.parents = omega (arith, c.requires.kind, ap (λ a. length (rows_of a)) c.in-Single.is, many_paths forest) in
    let row : row_at (rows_of c.args.self.now) c.args.kind ≡ full = ap (λ a. row_at (rows_of a) c.args.kind) c.in-Single.is ∙ path_row forest c.args.kind below in
    let there : is_in full 0 ≡ true = search rules in
    subst (λ r. EachRow n (IsMember old r c.args.object) (map items_of c.add_up.new.members.items)) (sym row)
    (member_there old n full c.args.object (map items_of c.add_up.new.members.items) there c.in_ok-add_up-in-Single.ensures)
