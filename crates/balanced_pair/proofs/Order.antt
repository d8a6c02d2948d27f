-- The lower value of balanced readings is at most the upper one, where each step costs something: after n steps they differ by at most the
-- penalty times the chance that the policy goes on, and this chance goes to 0.
use Rattle.std.proofs.Common.{◌≡◌, ◌⊎◌, ℕ, suc, zero, ◌+◌, ◌*◌, ◌^◌, ◌<◌, ◌≤◌, false, cond, List, [], ◌∷◌, Option, Some, None, refl, ap, inl, inr, ◌∙◌, arith}
use Rattle.std.specs.Prelude.{Contains}
use Rattle.std.proofs.lemmas.Bool.{cases_Bool}
use Rattle.std.proofs.Math.Nat.{mul-le-mul_left, mul-le-mul_right, pow-zero, one-le-pow, le_of_mul-le-mul_right}
use Rattle.decision_process.specs.Process.{Process, Outcome, expected, HasDenominator, CostsAtLeast}
use Rattle.decision_process.specs.Policies.{still, by_act}
use Rattle.decision_process.specs.Balanced.{IsBalanced}
use Rattle.decision_process.proofs.Ending.{policy_ends}
use Rattle.balanced_pair.specs.Laws as laws
use Rattle.balanced_pair.proofs.Scaled.{value-le_scaled, scaled-le_value}

takes_or_not : {A : Type 0} (x : Option A) → (x ≡ None) ⊎ ((a : A) × (x ≡ Some a))
takes_or_not None = inl refl
takes_or_not (Some a) = inr (a, refl)

split_part : (w a b q k : ℕ) → w * (a + (b + q * k)) ≡ w * (a + b) + q * (w * k)
split_part w a b q k = grind arith

join_parts : (q x y : ℕ) → q * (x + y) ≡ q * x + q * y
join_parts q x y = grind arith

split_total : {S : Type 0} (d q : ℕ) (f k : S → ℕ) (outcomes : List (Outcome S))
    → expected (λ o. o.cost * d + (f o.next + q * k o.next)) outcomes
    ≡ expected (λ o. o.cost * d + f o.next) outcomes + q * expected (λ o. k o.next) outcomes
split_total d q f k [] = omega arith
split_total d q f k (o ∷ outcomes) =
    omega (
      arith,
      split_part o.weight (o.cost * d) (f o.next) q (k o.next),
      split_total d q f k outcomes,
      join_parts q (o.weight * k o.next) (expected (λ x. k x.next) outcomes),
    )

times_one : (m t : ℕ) → t ≡ 1 → m * t ≡ m
times_one m t one = ap (λ x. m * x) one ∙ omega arith

-- where one is greater, each power is at most the rest
apart : (low high t rest : ℕ) → high < low → low * t ≤ high * t + rest → t ≤ rest
apart low high t rest above bound =
    let scaled : suc high * t ≤ low * t = mul-le-mul_right t (omega (arith, above)) in
    let more : suc high * t ≡ high * t + t = grind arith in
    omega (arith, scaled, more, bound)

chain : (m k q h t : ℕ) → t ≤ q * k → m * k ≤ h * t → m * t ≤ q * h * t
chain m k q h t first later =
    let a : m * t ≤ m * (q * k) = mul-le-mul_left m first in
    let b : m * (q * k) ≡ q * (m * k) = grind arith in
    let c : q * (m * k) ≤ q * (h * t) = mul-le-mul_left q later in
    let d : q * (h * t) ≡ q * h * t = grind arith in
    omega (arith, a, b, c, d)

within_or_above : (m n : ℕ) → (m ≤ n) ⊎ (n < m)
within_or_above m n = grind arith

module _ {S A : Type 0} (p : Process S A) (low high : S → ℕ) (act : S → Option A) (balanced : IsBalanced p low high act) where
  IsGap : ℕ → S → Type 0
  IsGap n s = low s * p.den ^ n ≤ high s * p.den ^ n + p.penalty * still p act n s

  gap_cases : (n : ℕ) (s : S) → ((a : A) → p.goal s ≡ false → act s ≡ Some a → IsGap n s) → IsGap n s
  unfolding IsGap
  gap_cases n s by_action = elim (cases_Bool (p.goal s)) [
    | inl on ↦
        let none : low s * p.den ^ n ≡ 0 = ap (λ m. m * p.den ^ n) ((balanced s).low_follows.at_goal on) ∙ omega arith in
        omega (arith, none)
    | inr off ↦ elim (takes_or_not (act s)) [
      | inl quits ↦
          let below : low s ≤ high s
          = omega (arith, (balanced s).low_follows.within_quit off, (balanced s).high_follows.covers_quit off quits) in
          omega (arith, mul-le-mul_right (p.den ^ n) below)
      | inr takes ↦ by_action takes.0 off takes.1
    ]
  ]

  gap_at_once : (s : S) (a : A) → p.goal s ≡ false → act s ≡ Some a → IsGap 0 s
  unfolding IsGap
  gap_at_once s a off takes =
      let one : p.den ^ 0 ≡ 1 = pow-zero p.den in
      let goes : still p act 0 s ≡ 1
      = ap (λ b. cond b 0 (by_act (act s) 0 (λ x. 1))) off ∙ ap (λ x. by_act x 0 (λ y. 1)) takes in
      omega (
        arith,
        (balanced s).low_follows.within_quit off,
        times_one (low s) (p.den ^ 0) one,
        times_one p.penalty (still p act 0 s) goes,
      )

  gap_later : (n : ℕ) → ((t : S) → IsGap n t) → (s : S) (a : A) → p.goal s ≡ false → act s ≡ Some a → IsGap (suc n) s
  unfolding IsGap
  gap_later n before s a off takes =
      let goes : still p act (suc n) s ≡ expected (λ o. still p act n o.next) (p.step a s)
      = ap (λ b. cond b 0 (by_act (act s) 0 (λ x. expected (λ o. still p act n o.next) (p.step x s)))) off
      ∙ ap (λ y. by_act y 0 (λ x. expected (λ o. still p act n o.next) (p.step x s))) takes in
      let goes_times : p.penalty * still p act (suc n) s ≡ p.penalty * expected (λ o. still p act n o.next) (p.step a s)
      = ap (λ m. p.penalty * m) goes in
      let is_open : Contains (p.choices s) a = (balanced s).high_follows.is_open a off takes in
      let up : low s * p.den ^ suc n
      ≤ expected (λ o. o.cost * p.den ^ n + (high o.next * p.den ^ n + p.penalty * still p act n o.next)) (p.step a s)
      = value-le_scaled p n (low s) low (λ t. high t * p.den ^ n + p.penalty * still p act n t) a s
      ((balanced s).low_follows.within_step a off is_open) (λ o _. before o.next) in
      let down : expected (λ o. o.cost * p.den ^ n + high o.next * p.den ^ n) (p.step a s) ≤ high s * p.den ^ suc n
      = scaled-le_value p n (high s) high high a s ((balanced s).high_follows.covers_step a off takes) in
      omega (
        arith,
        goes_times,
        up,
        down,
        split_total (p.den ^ n) p.penalty (λ t. high t * p.den ^ n) (λ t. still p act n t) (p.step a s),
      )

  gap : (n : ℕ) (s : S) → IsGap n s
  gap zero s = gap_cases zero s (gap_at_once s)
  gap (suc n) s = gap_cases (suc n) s (gap_later n (gap n) s)

  never_apart : HasDenominator p → 0 < p.den → (c : ℕ) → 0 < c → CostsAtLeast p c → (s : S) → high s < low s → ⊥
  unfolding IsGap
  never_apart whole positive c costly costs s above =
      let n : ℕ = suc (p.penalty * high s) in
      let rest : p.den ^ n ≤ p.penalty * still p act n s
      = apart (low s) (high s) (p.den ^ n) (p.penalty * still p act n s) above (gap n s) in
      let ends : n * c * still p act n s ≤ high s * p.den ^ n
      = policy_ends p low high act balanced whole c costs n s in
      let all : n * c * p.den ^ n ≤ p.penalty * high s * p.den ^ n
      = chain (n * c) (still p act n s) p.penalty (high s) (p.den ^ n) rest ends in
      let few : n * c ≤ p.penalty * high s = le_of_mul-le-mul_right all (one-le-pow n p.den positive) in
      let many : n * 1 ≤ n * c = mul-le-mul_left n (omega (arith, costly)) in
      absurd (omega (arith, few, many))

module _ {S A : Type 0} (p : Process S A) where
  pub low_is_within_high : laws.LowIsWithinHigh p
  low_is_within_high whole positive c costly costs low high act balanced s = elim (within_or_above (low s) (high s)) [
    | inl within ↦ within
    | inr above ↦ absurd (never_apart p low high act balanced whole positive c costly costs s above)
  ]
