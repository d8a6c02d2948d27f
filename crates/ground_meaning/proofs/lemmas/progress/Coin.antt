-- The coin's bounds, each from the one before; and its interval after 504 rounds, so the laws' premises can be met.
use Rattle.std.proofs.Common.{◌≡◌, ℕ, suc, zero, ◌+◌, ◌*◌, ◌≤◌, min, [], ◌∷◌, inl, inr, refl, subst, ap, arith}
use Rattle.plain_list.proofs.Members.{Contains-cons_cases, Contains-nil}
use Rattle.decision_process.specs.Backup.{floor, ceiling}
use Rattle.decision_process.specs.Rounded.{down, up, plain_low, plain_high}
use Rattle.decision_process.specs.Coin.{Side, heads, tails, shows, coin, starts}
use Rattle.decision_process.specs.Process.{Outcome, CostsAtLeast}
use Rattle.ground_model.specs.Coin as ground
use Rattle.ground_model.specs.Steps.{ground_process, ground_starts}
use Rattle.ground_model.proofs.Coin.{coin_is_ground_problem}
use Rattle.ground_meaning.specs.progress.Width.{IsNarrow}
use Rattle.ground_meaning.specs.progress.Coin.{low_after, high_after}
use Rattle.ground_meaning.proofs.lemmas.progress.Means.{interval_narrows}
use Rattle.ground_meaning.proofs.lemmas.progress.Problems.{ground_interval_narrows}

down_at_heads : (n : ℕ) → down coin n heads ≡ 0
down_at_heads zero = refl
down_at_heads (suc n) = refl

up_at_heads : (n : ℕ) → up coin n heads ≡ 0
up_at_heads zero = refl
up_at_heads (suc n) = refl

pub down_at_tails : (n : ℕ) → down coin n tails ≡ low_after n
down_at_tails zero = refl
down_at_tails (suc n) =
    let value : 1 * (1000000 + down coin n heads) + (1 * (1000000 + down coin n tails) + 0) ≡ 2000000 + low_after n
    = omega (arith, down_at_heads n, down_at_tails n) in
    ap (λ x. min (floor x 2) 10000000) value

pub up_at_tails : (n : ℕ) → up coin n tails ≡ high_after n
up_at_tails zero = refl
up_at_tails (suc n) =
    let value : 1 * (1000000 + up coin n heads) + (1 * (1000000 + up coin n tails) + 0) ≡ 2000000 + high_after n
    = omega (arith, up_at_heads n, up_at_tails n) in
    ap (λ x. min (ceiling x 2) 10000000) value

flips_cost_a_million : CostsAtLeast coin 1000000
flips_cost_a_million move side is_open o inside = elim (Contains-cons_cases (shows heads) (shows tails ∷ []) o inside) [
  | inl first ↦ subst (λ (x : Outcome Side). 1000000 ≤ x.cost) first (omega arith)
  | inr later ↦ elim (Contains-cons_cases (shows tails) [] o later) [
    | inl second ↦ subst (λ (x : Outcome Side). 1000000 ≤ x.cost) second (omega arith)
    | inr none ↦ absurd (Contains-nil o none)
  ]
]

-- 24 times 21 rounds leave at most 22 micro-units
few_units : (low high : ℕ) → IsNarrow 10000000 999999 24 (low + 2) high → high ≤ low + 22
few_units low high narrow = omega arith

pub interval_after_504_rounds : (n : ℕ) → 504 ≤ n → plain_high coin starts 1 n ≤ plain_low coin starts 1 n + 22
interval_after_504_rounds n later =
    few_units (plain_low coin starts 1 n) (plain_high coin starts 1 n)
    (interval_narrows coin (omega arith) (λ move side is_open. refl) 999999 21 flips_cost_a_million (omega arith) 24 n (omega arith)
    starts 1 (omega arith) refl)

-- so it is for the coin as a ground problem
pub ground_interval_after_504_rounds : (n : ℕ) → 504 ≤ n
    → plain_high (ground_process ground.coin) (ground_starts ground.coin) 1 n ≤ plain_low (ground_process ground.coin) (ground_starts ground.coin) 1 n + 22
ground_interval_after_504_rounds n later =
    few_units (plain_low (ground_process ground.coin) (ground_starts ground.coin) 1 n) (plain_high (ground_process ground.coin) (ground_starts ground.coin) 1 n)
    (ground_interval_narrows ground.coin coin_is_ground_problem 999999 21 (omega arith) (omega arith) 24 n (omega arith))
