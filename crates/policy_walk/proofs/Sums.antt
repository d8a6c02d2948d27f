-- The lines of walks, what they cost together, and how much that can be.
use Rattle.std.proofs.Common.{◌≡◌, ℕ, suc, zero, ◌+◌, ◌*◌, ◌<◌, ◌≤◌, List, [], ◌∷◌, ◌++◌, length, take, get_or, ap, sym, ◌∙◌, append_assoc, append-nil, arith}
use Rattle.std.specs.Prelude.{All}
use Rattle.std.proofs.lemmas.List.{get_or_default}
use Rattle.std.proofs.lemmas.List.Elements.{All-head, All-tail}
use Rattle.certificate_check.proofs.lemmas.row_check.Totals.{total_more, total_part}
use Rattle.policy_walk.specs.declared.ends.Walk.{Walk}
use Rattle.policy_walk.specs.declared.limits.TheConstants.{MOST_WALKS, MOST_WALK_COST}
use Rattle.policy_walk.specs.Reports.{walk_line, walk_lines, total_cost}

cost_within : (walks : List Walk) → All (λ (w : Walk). w.cost ≤ MOST_WALK_COST) walks → total_cost walks ≤ length walks * MOST_WALK_COST
cost_within [] each = omega arith
cost_within (w ∷ walks) each =
    let first = All-head (λ (x : Walk). x.cost ≤ MOST_WALK_COST) w walks each in
    let rest = cost_within walks (All-tail (λ (x : Walk). x.cost ≤ MOST_WALK_COST) w walks each) in
    omega (arith, first, rest)

module _ (walks : List Walk) (few : length walks ≤ MOST_WALKS) (each : All (λ (w : Walk). w.cost ≤ MOST_WALK_COST) walks)
    (i : ℕ) (d : Walk) (within : i < length walks) where
  pub one_more : total_cost (take (i + 1) walks) ≡ total_cost (take i walks) + (get_or walks i d).cost
  one_more = total_more (λ (w : Walk). w.cost) walks i (get_or walks i d) within (get_or_default walks i d (get_or walks i d) within)

  pub fits : total_cost (take i walks) + (get_or walks i d).cost ≤ 10010000000000000000
  fits =
      let all = cost_within walks each in
      let part = total_part (λ (w : Walk). w.cost) walks (i + 1) in
      let more = one_more in
      omega (arith, all, part, more, few)

-- ---- lines

pub lines_more : (i n : ℕ) (walks : List Walk) (d : Walk) → n < length walks
    → walk_lines i (take (suc n) walks) ≡ walk_lines i (take n walks) ++ walk_line (i + n) (get_or walks n d)
lines_more i n [] d within = absurd (omega (arith, within))
lines_more i zero (w ∷ walks) d within =
    let same : i + 0 ≡ i = omega arith in
    append-nil (walk_line i w) ∙ ap (λ k. walk_line k w) (sym same)
lines_more i (suc n) (w ∷ walks) d within =
    let same : i + 1 + n ≡ i + suc n = omega arith in
    ap (λ l. walk_line i w ++ l) (lines_more (i + 1) n walks d (omega (arith, within)) ∙ ap (λ k. walk_lines (i + 1) (take n walks) ++ walk_line k (get_or walks n d)) same)
    ∙ sym (append_assoc (walk_line i w) (walk_lines (i + 1) (take n walks)) (walk_line (i + suc n) (get_or walks n d)))

pub one_line : (n : ℕ) (walks : List Walk) (d : Walk) → n < length walks
    → walk_lines 0 (take (n + 1) walks) ≡ walk_lines 0 (take n walks) ++ walk_line n (get_or walks n d)
one_line n walks d within =
    let next : n + 1 ≡ suc n = omega arith in
    let same : 0 + n ≡ n = omega arith in
    ap (λ k. walk_lines 0 (take k walks)) next ∙ lines_more 0 n walks d within
    ∙ ap (λ k. walk_lines 0 (take n walks) ++ walk_line k (get_or walks n d)) same
