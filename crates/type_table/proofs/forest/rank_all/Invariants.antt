use Rattle.std.proofs.Common.{◌≡◌, ◌<◌, ℕ, length}
use Rattle.type_table.specs.Forest.{ArePlaced, IsRanked}
use Rattle.type_table.proofs.forest.rank_all.Given as goal

abbrev pub invariant-loop-kind : goal.invariant-loop-kind
invariant-loop-kind l =
    (length l.ranks.items ≡ length l.parents) × ArePlaced l.parents l.ranks.items × ((q : ℕ) → q < l.kind → IsRanked l.ranks.items q)
