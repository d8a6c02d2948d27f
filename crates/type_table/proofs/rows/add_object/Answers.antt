use Rattle.std.proofs.Common.{◌≡◌, length, map, sym, subst, true, false, rules}
use Rattle.type_table.specs.Reading.{items_of}
use Rattle.type_table.specs.Rows.{EachRow, IsMember}
use Rattle.type_table.proofs.MemberSteps.{is_in, member_there, member_pushed}
use Rattle.type_table.proofs.rows.add_object.Goals as goal

pub returns-in_ok-push_to : goal.returns-in_ok-push_to
returns-in_ok-push_to c =
    let old = map items_of c.args.members.now.items in
    let n = length c.args.members.now.items in
    let new : is_in c.args.row.now 0 ≡ false = search rules in
    subst (EachRow n (IsMember old c.args.row.now c.args.object)) (sym c.in_ok-push_to.ensures)
    (member_pushed old n c.args.row.now c.args.object (map items_of c.add_to_row.new.members.items) c.requires.some new c.in_ok-add_to_row.ensures)

pub returns-else-not-contains : goal.returns-else-not-contains
returns-else-not-contains c =
    let old = map items_of c.args.members.now.items in
    let n = length c.args.members.now.items in
    let there : is_in c.args.row.now 0 ≡ true = search rules in
    member_there old n c.args.row.now c.args.object (map items_of c.add_to_row.new.members.items) there c.in_ok-add_to_row.ensures
