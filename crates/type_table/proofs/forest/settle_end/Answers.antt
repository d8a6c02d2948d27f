use Rattle.std.proofs.Common.{◌≡◌, ◌≤◌, ap, arith, inl, inr}
use Rattle.type_table.specs.declared.forest.Rank.{Rank}
use Rattle.type_table.specs.declared.forest.TheConstants.{UNPLACED}
use Rattle.type_table.specs.Forest.{parent_at, depth_at}
use Rattle.type_table.proofs.Placing.{rank_read, settled_end}
use Rattle.type_table.proofs.forest.settle_end.Goals as goal

pub returns-then-index-ge-UNPLACED-clause-placed : goal.returns-then-index-ge-UNPLACED-clause-placed
returns-then-index-ge-UNPLACED-clause-placed c =
    let parents = c.args.parents.now in
    let ranks = c.args.ranks.now.items in
    let kind = c.args.kind in
    let read = ap (λ (r : Rank). r.depth) (rank_read ranks kind c.index.result.now (omega (arith, c.requires.kind, c.requires.many)) c.index.ensures) in
    let none : UNPLACED ≤ depth_at ranks kind = omega (arith, read, c.if-index-ge-UNPLACED.true) in
    let root : parent_at parents kind ≡ kind = elim c.requires.end [ inl ranked ↦ absurd (omega (arith, none, ranked)) | inr root ↦ root ] in
    (settled_end parents ranks kind (omega (arith, c.requires.kind, c.requires.many)) c.requires.placed none root).0
