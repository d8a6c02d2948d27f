use Rattle.std.proofs.Common.{◌≡◌, ◌∙◌, List, ℕ, get_or, refl, ap, sym, subst, arith}
use Rattle.type_table.specs.declared.forest.Rank.{Rank}
use Rattle.type_table.specs.Forest.{rank_at, jump_at, IsRanked, IsOnTheWay}
use Rattle.type_table.proofs.Climbing.{jump_depth}
use Rattle.type_table.proofs.Placing.{ranks_read, ranked_within, two_jumps}
use Rattle.type_table.proofs.forest.jump_from.Goals as goal

abbrev origin : Rank
origin = record { depth = 0; jump = 0 }

read : (ranks : List Rank) (k : ℕ) → IsRanked ranks k → get_or ranks k origin ≡ rank_at ranks k
read ranks k ranked = ranks_read ranks ranks origin refl k (ranked_within ranks k ranked)

read_on : (ranks : List Rank) (k : ℕ) → IsRanked ranks k → IsRanked ranks (jump_at ranks k) → get_or ranks (get_or ranks k origin).jump origin ≡ rank_at ranks (jump_at ranks k)
read_on ranks k ranked ahead = ap (λ j. get_or ranks j origin) (ap (λ (r : Rank). r.jump) (read ranks k ranked)) ∙ read ranks (jump_at ranks k) ahead

read_twice : (ranks : List Rank) (k : ℕ) → IsRanked ranks k → IsRanked ranks (jump_at ranks k) → IsRanked ranks (jump_at ranks (jump_at ranks k))
    → get_or ranks (get_or ranks (get_or ranks k origin).jump origin).jump origin ≡ rank_at ranks (jump_at ranks (jump_at ranks k))
read_twice ranks k ranked ahead further =
    ap (λ j. get_or ranks j origin) (ap (λ (r : Rank). r.jump) (read_on ranks k ranked ahead)) ∙ read ranks (jump_at ranks (jump_at ranks k)) further

pub overflow_sub-above : goal.overflow_sub-above
overflow_sub-above c =
    let ranks = c.args.ranks.now in
    let one = c.requires.placed c.args.parent c.requires.ranked in
    omega (
      arith,
      ap (λ (r : Rank). r.depth) (read ranks c.args.parent c.requires.ranked),
      ap (λ (r : Rank). r.depth) (read_on ranks c.args.parent c.requires.ranked one.ahead),
      jump_depth c.args.parents.now ranks c.requires.placed c.args.parent c.requires.ranked,
    )

pub overflow_sub-far : goal.overflow_sub-far
overflow_sub-far c =
    let ranks = c.args.ranks.now in
    let one = c.requires.placed c.args.parent c.requires.ranked in
    let two = c.requires.placed (jump_at ranks c.args.parent) one.ahead in
    omega (
      arith,
      ap (λ (r : Rank). r.depth) (read_on ranks c.args.parent c.requires.ranked one.ahead),
      ap (λ (r : Rank). r.depth) (read_twice ranks c.args.parent c.requires.ranked one.ahead two.ahead),
      jump_depth c.args.parents.now ranks c.requires.placed (jump_at ranks c.args.parent) one.ahead,
    )

pub returns-then-above-far : goal.returns-then-above-far
returns-then-above-far c =
    let ranks = c.args.ranks.now in
    let one = c.requires.placed c.args.parent c.requires.ranked in
    subst (IsOnTheWay c.args.parents.now ranks c.args.parent) (sym (ap (λ (r : Rank). r.jump) (read_on ranks c.args.parent c.requires.ranked one.ahead)))
    (two_jumps c.args.parents.now ranks c.args.parent c.requires.placed c.requires.ranked)
