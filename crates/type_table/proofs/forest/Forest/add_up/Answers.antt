use Rattle.std.proofs.Common.{◌≡◌, ◌<◌, ◌≤◌, ◌∙◌, length, map, get_or, sym, subst, ap, arith}
use Rattle.type_table.specs.declared.forest.Rank.{Rank}
use Rattle.type_table.specs.Forest.{parent_at, depth_at, upward_path}
use Rattle.type_table.specs.Reading.{items_of}
use Rattle.type_table.specs.Rows.{pushed, EachRow, IsGrown}
use Rattle.type_table.proofs.Lists.{map_length}
use Rattle.type_table.proofs.AddingUp.{IsUp, up_begins, up_more, up_ends}
use Rattle.type_table.proofs.Placing.{ranks_read}
use Rattle.type_table.proofs.forest.Forest.add_up.Goals as goal

abbrev origin : Rank
origin = record { depth = 0; jump = 0 }

pub loop-at-init : goal.loop-at-init
loop-at-init c =
    let forest = c.requires.forest in
    let parents = c.args.self.now.parents in
    let ranks = c.args.self.now.ranks in
    let old = map items_of c.args.members.now.items in (
      c.requires.kind,
      subst (IsUp parents ranks c.args.kind old c.args.object c.args.kind) (sym c.in_ok-push_to.ensures)
          (up_begins parents ranks forest c.args.kind c.requires.kind old c.args.object (sym (map_length items_of c.args.members.now.items) ∙ c.requires.many)),
    )

pub bounds-ranks-at : goal.bounds-ranks-at
bounds-ranks-at c = omega (arith, c.loop-at.invariant.0, c.requires.forest.many, ap length c.as_slice-ranks.ensures)

pub push_to-requires-in-loop-at : goal.push_to-requires-in-loop-at
push_to-requires-in-loop-at c =
    let parents = c.args.self.now.parents in
    let up : get_or c.as_slice-parents.result.now c.loop-at.at 0 ≡ parent_at parents c.loop-at.at = ap (λ ps. get_or ps c.loop-at.at 0) c.as_slice-parents.ensures in
    omega (arith, up, c.requires.forest.within c.loop-at.at c.loop-at.invariant.0, c.loop-at.invariant.1.1.many, map_length items_of c.loop-at.members.items)

pub loop-at-smaller : goal.loop-at-smaller
loop-at-smaller c =
    let forest = c.requires.forest in
    let slice = c.as_slice-ranks.result.now in
    let ranks = c.args.self.now.ranks in
    let parents = c.args.self.now.parents in
    let at = c.loop-at.at in
    let up : get_or c.as_slice-parents.result.now at 0 ≡ parent_at parents at = ap (λ ps. get_or ps at 0) c.as_slice-parents.ensures in
    let then : depth_at slice (get_or c.as_slice-parents.result.now at 0) ≡ depth_at ranks (parent_at parents at) = (λ i. depth_at (c.as_slice-ranks.ensures i) (up i)) in
    let now : depth_at slice at ≡ depth_at ranks at = ap (λ rs. depth_at rs at) c.as_slice-ranks.ensures in
    let here = ap (λ (r : Rank). r.depth) (ranks_read slice ranks origin c.as_slice-ranks.ensures at (omega (arith, c.loop-at.invariant.0, forest.many))) in
    omega (arith, then, now, here, (forest.placed at (forest.each at c.loop-at.invariant.0)).next, c.loop-at-test.true)

pub loop-at-preserved : goal.loop-at-preserved
loop-at-preserved c =
    let forest = c.requires.forest in
    let parents = c.args.self.now.parents in
    let ranks = c.args.self.now.ranks in
    let slice = c.as_slice-ranks.result.now in
    let old = map items_of c.args.members.now.items in
    let at = c.loop-at.at in
    let up : get_or c.as_slice-parents.result.now at 0 ≡ parent_at parents at = ap (λ ps. get_or ps at 0) c.as_slice-parents.ensures in
    let here = ap (λ (r : Rank). r.depth) (ranks_read slice ranks origin c.as_slice-ranks.ensures at (omega (arith, c.loop-at.invariant.0, forest.many))) in
    let deep : 0 < depth_at ranks at = omega (arith, here, c.loop-at-test.true) in
    let rows : map items_of c.push_to-in-loop-at.new.rows.items ≡ pushed (map items_of c.loop-at.members.items) (parent_at parents at) c.args.object =
    c.in_ok-push_to-2.ensures ∙ ap (λ k. pushed (map items_of c.loop-at.members.items) k c.args.object) up in (
      omega (arith, up, forest.within at c.loop-at.invariant.0),
      subst (λ k. IsUp parents ranks c.args.kind old c.args.object k (map items_of c.push_to-in-loop-at.new.rows.items)) (sym up)
          (subst (IsUp parents ranks c.args.kind old c.args.object (parent_at parents at)) (sym rows)
          (up_more parents ranks forest c.args.kind c.requires.kind old c.args.object at (map items_of c.loop-at.members.items) c.loop-at.invariant.0 deep c.loop-at.invariant.1)),
    )

pub returns : goal.returns
returns c =
    let forest = c.requires.forest in
    let parents = c.args.self.now.parents in
    let ranks = c.args.self.now.ranks in
    let slice = c.as_slice-ranks.result.now in
    let old = map items_of c.args.members.now.items in
    let at = c.loop-at.at in
    let here = ap (λ (r : Rank). r.depth) (ranks_read slice ranks origin c.as_slice-ranks.ensures at (omega (arith, c.loop-at.invariant.0, forest.many))) in
    let root : depth_at ranks at ≤ 0 = omega (arith, here, c.loop-at-test.false) in
    subst (λ n. EachRow n (IsGrown old (upward_path parents ranks c.args.kind) c.args.object) (map items_of c.loop-at.members.items)) (sym c.requires.many)
    (up_ends parents ranks forest c.args.kind c.requires.kind old c.args.object at (map items_of c.loop-at.members.items) root c.loop-at.invariant.1)
