use Rattle.std.proofs.Common.{◌≡◌, ◌<◌, ◌+◌, suc, ap, subst, arith}
use Rattle.type_table.specs.declared.forest.Rank.{Rank}
use Rattle.type_table.specs.declared.forest.TheConstants.{UNPLACED}
use Rattle.type_table.specs.Forest.{parent_at, depth_at, IsOnTheWay}
use Rattle.type_table.proofs.Placing.{rank_read, ranked_within, settled}
use Rattle.type_table.proofs.forest.settle.Goals as goal

pub returns-clause-placed : goal.returns-clause-placed
returns-clause-placed c =
    let parents = c.args.parents.now in
    let ranks = c.args.ranks.now.items in
    let kind = c.args.kind in
    let parent = parent_at parents kind in
    let read = ap (λ (r : Rank). r.depth) (rank_read ranks parent c.index.result.now (ranked_within ranks parent c.requires.parent) c.index.ensures) in
    let is : c.index.result.now.depth + 1 ≡ suc (depth_at ranks parent) = omega (arith, read) in
    let fits : c.index.result.now.depth + 1 < UNPLACED = omega (arith, c.if-above.false) in
    settled parents ranks kind (omega (arith, c.requires.kind, c.requires.many)) c.requires.placed c.requires.parent c.requires.other
    (c.index.result.now.depth + 1) c.jump_from-jump.result is fits
    (subst (λ rs. IsOnTheWay parents rs parent c.jump_from-jump.result) c.as_slice.ensures.value c.jump_from-jump.ensures)
