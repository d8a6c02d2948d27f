use Rattle.std.proofs.Common.{◌<◌, ◌+◌, length, map, take, sym, subst}
use Rattle.std.proofs.lemmas.List.Elements.{All-get_or}
use Rattle.type_table.specs.Reading.{items_of}
use Rattle.type_table.specs.Rows.{EachRow, IsGrown}
use Rattle.type_table.proofs.Lists.{map_length}
use Rattle.type_table.proofs.MemberSteps.{grown_none, grown_more}
use Rattle.type_table.proofs.rows.add_to_row.Goals as goal

pub loop-kind-init : goal.loop-kind-init
loop-kind-init c =
    let old = map items_of c.args.members.now.items in
    grown_none old (length c.args.members.now.items) c.args.row.now c.args.object (sym (map_length items_of c.args.members.now.items))

pub loop-kind-preserved : goal.loop-kind-preserved
loop-kind-preserved c =
    let l = c.loop-kind in
    let old = map items_of c.args.members.now.items in
    let n = length c.args.members.now.items in
    let row = c.args.row.now in
    subst (EachRow n (IsGrown old (take (l.kind-index + 1) row) c.args.object)) (sym c.in_ok-push_to.ensures)
    (grown_more old n row c.args.object l.kind-index (map items_of l.members.items) c.loop-kind-test.true
    (All-get_or (λ k. k < n) row l.kind-index 0 c.loop-kind-test.true c.requires.within) c.requires.distinct l.invariant)
