use Rattle.std.proofs.Common.{◌≡◌, ◌<◌, ◌-◌, ◌∙◌, length, get_or, sym, subst, ap, arith}
use Rattle.type_table.specs.declared.forest.Rank.{Rank}
use Rattle.type_table.specs.Forest.{parent_at, climb, depth_at, jump_at}
use Rattle.type_table.proofs.Climbing.{IsWalk, walk_on, walk_ends, jump_less}
use Rattle.type_table.proofs.Placing.{ranks_read, ranked_within}
use Rattle.type_table.proofs.forest.Forest.leads_to.Goals as goal

abbrev origin : Rank
origin = record { depth = 0; jump = 0 }

pub bounds-ranks-jump : goal.bounds-ranks-jump
bounds-ranks-jump c =
    let forest = c.requires.forest in
    let ranks = c.args.self.now.ranks in
    let at = c.loop-at.at in
    let below = c.loop-at.invariant.within in
    let here = ranks_read c.as_slice-ranks.result.now ranks origin c.as_slice-ranks.ensures at (omega (arith, below, forest.many)) in
    let within = ranked_within ranks (jump_at ranks at) (forest.placed at (forest.each at below)).ahead in
    omega (arith, ap (λ (r : Rank). r.jump) here, within, ap length c.as_slice-ranks.ensures)

pub loop-at-smaller-then-ranks-jump : goal.loop-at-smaller-then-ranks-jump
loop-at-smaller-then-ranks-jump c =
    let forest = c.requires.forest in
    let slice = c.as_slice-ranks.result.now in
    let ranks = c.args.self.now.ranks in
    let at = c.loop-at.at in
    let below = c.loop-at.invariant.within in
    let here = ranks_read slice ranks origin c.as_slice-ranks.ensures at (omega (arith, below, forest.many)) in
    let jump : (get_or slice at origin).jump ≡ jump_at ranks at = ap (λ (r : Rank). r.jump) here in
    let then : depth_at slice (get_or slice at origin).jump ≡ depth_at ranks (jump_at ranks at) = (λ i. depth_at (c.as_slice-ranks.ensures i) (jump i)) in
    let now : depth_at slice at ≡ depth_at ranks at = ap (λ rs. depth_at rs at) c.as_slice-ranks.ensures in
    let deep : 0 < depth_at ranks at = omega (arith, c.loop-at-test.true, ap (λ (r : Rank). r.depth) here) in
    omega (arith, then, now, jump_less c.args.self.now.parents ranks forest.placed at (forest.each at below) deep)

pub loop-at-preserved-then-ranks-jump : goal.loop-at-preserved-then-ranks-jump
loop-at-preserved-then-ranks-jump c =
    let forest = c.requires.forest in
    let slice = c.as_slice-ranks.result.now in
    let ranks = c.args.self.now.ranks in
    let parents = c.args.self.now.parents in
    let at = c.loop-at.at in
    let walk = c.loop-at.invariant in
    let here = ranks_read slice ranks origin c.as_slice-ranks.ensures at (omega (arith, walk.within, forest.many)) in
    let is = forest.placed at (forest.each at walk.within) in
    let jump : (get_or slice at origin).jump ≡ jump_at ranks at = ap (λ (r : Rank). r.jump) here in
    let landing : (get_or slice at origin).jump ≡ climb parents is.steps at = jump ∙ sym is.far in
    let within = ranked_within ranks (jump_at ranks at) is.ahead in
    let other = ap (λ (r : Rank). r.depth) (ranks_read slice ranks origin c.as_slice-ranks.ensures c.args.other (omega (arith, c.requires.other, forest.many))) in
    let there = ap (λ (r : Rank). r.depth) (ranks_read slice ranks origin c.as_slice-ranks.ensures (get_or slice at origin).jump (omega (arith, jump, within))) in
    let depth : depth_at ranks (get_or slice at origin).jump ≡ depth_at ranks (climb parents is.steps at) = ap (depth_at ranks) landing in
    subst (IsWalk parents c.args.kind c.args.other) (sym landing)
    (walk_on parents ranks forest c.args.kind c.args.other at walk is.steps (omega (arith, other, there, depth, c.if-ranks-jump.true)))

pub loop-at-preserved : goal.loop-at-preserved
loop-at-preserved c =
    let forest = c.requires.forest in
    let slice = c.as_slice-ranks.result.now in
    let ranks = c.args.self.now.ranks in
    let parents = c.args.self.now.parents in
    let at = c.loop-at.at in
    let walk = c.loop-at.invariant in
    let here = ap (λ (r : Rank). r.depth) (ranks_read slice ranks origin c.as_slice-ranks.ensures at (omega (arith, walk.within, forest.many))) in
    let other = ap (λ (r : Rank). r.depth) (ranks_read slice ranks origin c.as_slice-ranks.ensures c.args.other (omega (arith, c.requires.other, forest.many))) in
    let up : get_or c.as_slice-parents.result.now at 0 ≡ parent_at parents at = ap (λ ps. get_or ps at 0) c.as_slice-parents.ensures in
    let next : depth_at ranks (parent_at parents at) ≡ depth_at ranks at - 1 = (forest.placed at (forest.each at walk.within)).next in
    subst (IsWalk parents c.args.kind c.args.other) (sym up)
    (walk_on parents ranks forest c.args.kind c.args.other at walk 1 (omega (arith, here, other, next, c.loop-at-test.true)))

pub returns : goal.returns
returns c =
    let forest = c.requires.forest in
    let slice = c.as_slice-ranks.result.now in
    let ranks = c.args.self.now.ranks in
    let at = c.loop-at.at in
    let walk = c.loop-at.invariant in
    let here = ap (λ (r : Rank). r.depth) (ranks_read slice ranks origin c.as_slice-ranks.ensures at (omega (arith, walk.within, forest.many))) in
    let other = ap (λ (r : Rank). r.depth) (ranks_read slice ranks origin c.as_slice-ranks.ensures c.args.other (omega (arith, c.requires.other, forest.many))) in
    walk_ends c.args.self.now.parents ranks forest c.args.kind c.args.other at walk c.requires.kind (omega (arith, here, other, c.loop-at-test.false))
