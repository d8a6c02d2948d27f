use Rattle.std.proofs.Common.{◌≡◌, ◌∙◌, length, map}
use Rattle.type_table.specs.Reading.{items_of}
use Rattle.type_table.specs.Types.{type_names}
use Rattle.type_table.proofs.Lists.{map_length}
use Rattle.type_table.proofs.MemberSteps.{members_none, members_more}
use Rattle.type_table.proofs.members.member_rows.Goals as goal

pub loop-object-init : goal.loop-object-init
loop-object-init c =
    members_none c.args.types.now c.args.kinds.now c.count.result (map items_of c.in_ok-members.members.items) c.count.ensures c.in_ok-members.ensures

pub loop-object-preserved : goal.loop-object-preserved
loop-object-preserved c =
    let l = c.loop-object in
    let types = c.args.types.now in
    let many : length l.members.items ≡ length (type_names types) = map_length items_of l.members.items ∙ l.invariant.many in
    let added = c.in_ok-add_member.ensures in
    members_more types c.args.kinds.now l.object (length l.members.items) added.row (map items_of l.members.items) (map items_of c.add_member.new.members.items)
    added.is many l.invariant added.added
