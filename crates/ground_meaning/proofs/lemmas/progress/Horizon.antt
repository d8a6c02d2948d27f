-- Policies that may look at the number of steps that are left: how likely they go on, and how many steps they take.
--     going p policy n s    the chance that n steps have ended it neither at a goal nor by giving up, times den ^ n
--     steps p policy n s    the expected number of steps that it takes within n, times den ^ n
--     behind n policy       the policy with n more steps left: its first k steps are those of `policy` with k + n left
use Rattle.std.proofs.Common.{◌≡◌, ℕ, suc, zero, ◌+◌, ◌*◌, ◌^◌, ◌≤◌, true, cond, Option, refl, ap, sym, ◌∙◌, arith}
use Rattle.std.proofs.Math.Nat.{pow-suc, pow-zero, mul_comm, mul-le-mul_right}
use Rattle.std.proofs.lemmas.Nat.{pow-add}
use Rattle.plain_list.proofs.lemmas.weighted.Totals.{total-weighted_times, total-weighted_le}
use Rattle.decision_process.specs.Process.{Process, Outcome, expected, HasDenominator}
use Rattle.decision_process.specs.Policies.{IsPolicy, by_act}
use Rattle.decision_process.proofs.Cases.{goal_cases}
use Rattle.ground_meaning.proofs.lemmas.progress.Sums.{total-weighted_add, total-weighted_constant, step_cases}

abbrev pub behind : {S A : Type 0} → ℕ → (ℕ → S → Option A) → ℕ → S → Option A
behind n policy = λ k. policy (k + n)

module _ {S A : Type 0} (p : Process S A) where
  abbrev pub going : (ℕ → S → Option A) → ℕ → S → ℕ
  going policy zero s = cond (p.goal s) 0 1
  going policy (suc n) s =
      cond (p.goal s) 0 (by_act (policy n s) 0 (λ a. expected (λ o. going policy n o.next) (p.step a s)))

  abbrev pub steps : (ℕ → S → Option A) → ℕ → S → ℕ
  steps policy zero s = 0
  steps policy (suc n) s =
      cond (p.goal s) 0 (by_act (policy n s) 0 (λ a. p.den ^ suc n + expected (λ o. steps policy n o.next) (p.step a s)))

  abbrev pub ArePolicies : (ℕ → S → Option A) → Type 0
  ArePolicies policy = (n : ℕ) → IsPolicy p (policy n)

  power_suc : (n : ℕ) → p.den * p.den ^ n ≡ p.den ^ suc n
  power_suc n = mul_comm p.den (p.den ^ n) ∙ sym (pow-suc p.den n)

  going_at_goal : (policy : ℕ → S → Option A) (n : ℕ) (s : S) → p.goal s ≡ true → going policy n s ≡ 0
  going_at_goal policy zero s on = rw on refl
  going_at_goal policy (suc n) s on = rw on refl

  -- what goes on behind k + n steps has gone on behind the first k, and then n more
  pub going_on : (policy : ℕ → S → Option A) (n scale most : ℕ) → ((s : S) → going policy n s * scale ≤ most)
      → (k : ℕ) (s : S) → going policy (k + n) s * scale ≤ going (behind n policy) k s * most
  going_on policy n scale most within zero s =
      let same : 0 + n ≡ n = omega arith in
      rw same (goal_cases (p.goal s) (λ chance. going policy n s * scale ≤ chance * most) 1
      (λ on. let none : going policy n s * scale ≡ 0 * scale = ap (λ t. t * scale) (going_at_goal policy n s on) in omega (arith, none))
      (λ off. omega (arith, within s)))
  going_on policy n scale most within (suc k) s =
      let after : going policy (suc (k + n)) s * scale ≤ going (behind n policy) (suc k) s * most
      = step_cases (p.goal s) (policy (k + n) s) (λ whole first. whole * scale ≤ first * most)
      (λ a. expected (λ o. going policy (k + n) o.next) (p.step a s)) (λ a. expected (λ o. going (behind n policy) k o.next) (p.step a s))
      (λ on. omega arith) (λ off none. omega arith)
      (λ a off some.
      let each
      = total-weighted_le (λ o. o.weight) (λ o. going policy (k + n) o.next * scale) (λ o. going (behind n policy) k o.next * most)
      (p.step a s) (λ o _. going_on policy n scale most within k o.next) in
      let whole = total-weighted_times (λ (o : Outcome S). o.weight) (λ o. going policy (k + n) o.next) scale (p.step a s) in
      let first = total-weighted_times (λ (o : Outcome S). o.weight) (λ o. going (behind n policy) k o.next) most (p.step a s) in
      omega (arith, each, whole, first)) in
      let same : suc k + n ≡ suc (k + n) = omega arith in
      rw same after

  module _ (whole : HasDenominator p) where
    pub going_le_power : (policy : ℕ → S → Option A) → ArePolicies policy → (n : ℕ) (s : S) → going policy n s ≤ p.den ^ n
    going_le_power policy are zero s =
        let one : p.den ^ 0 ≡ 1 = pow-zero p.den in
        rw one (goal_cases (p.goal s) (λ chance. chance ≤ 1) 1 (λ _. omega arith) (λ _. omega arith))
    going_le_power policy are (suc n) s =
        step_cases (p.goal s) (policy n s) (λ chance _. chance ≤ p.den ^ suc n)
        (λ a. expected (λ o. going policy n o.next) (p.step a s)) (λ a. 0)
        (λ on. omega arith) (λ off none. omega arith)
        (λ a off some.
        let each
        = total-weighted_le (λ o. o.weight) (λ o. going policy n o.next) (λ o. p.den ^ n) (p.step a s)
        (λ o _. going_le_power policy are n o.next) in
        let constant
        = total-weighted_constant (λ (o : Outcome S). o.weight) p.den (p.den ^ n) (p.step a s) (whole a s (are n s a off some)) in
        omega (arith, each, constant, power_suc n))

    -- one step more, for what goes on
    one_step_more : (k chance full d paid : ℕ) → chance * (k * d) ≤ paid → chance ≤ full → chance * (suc k * d) ≤ full * d + paid
    one_step_more k chance full d paid before within =
        let last : chance * d ≤ full * d = mul-le-mul_right d within in
        let split : chance * (suc k * d) ≡ chance * (k * d) + chance * d = grind arith in
        omega (arith, before, last, split)

    -- what goes on behind k steps has taken k steps
    pub going_takes_steps : (policy : ℕ → S → Option A) → ArePolicies policy → (n k : ℕ) (s : S)
        → going (behind n policy) k s * (k * p.den ^ n) ≤ steps policy (k + n) s
    going_takes_steps policy are n zero s =
        let none : going (behind n policy) 0 s * (0 * p.den ^ n) ≡ 0 = grind arith in
        omega (arith, none)
    going_takes_steps policy are n (suc k) s =
        let after : going (behind n policy) (suc k) s * (suc k * p.den ^ n) ≤ steps policy (suc (k + n)) s
        = step_cases (p.goal s) (policy (k + n) s) (λ chance taken. chance * (suc k * p.den ^ n) ≤ taken)
        (λ a. expected (λ o. going (behind n policy) k o.next) (p.step a s))
        (λ a. p.den ^ suc (k + n) + expected (λ o. steps policy (k + n) o.next) (p.step a s))
        (λ on. omega arith) (λ off none. omega arith)
        (λ a off some.
        let each
        = total-weighted_le (λ o. o.weight) (λ o. going (behind n policy) k o.next * (suc k * p.den ^ n))
        (λ o. p.den ^ k * p.den ^ n + steps policy (k + n) o.next) (p.step a s)
        (λ o _. one_step_more k (going (behind n policy) k o.next) (p.den ^ k) (p.den ^ n) (steps policy (k + n) o.next)
        (going_takes_steps policy are n k o.next) (going_le_power (behind n policy) (λ j. are (j + n)) k o.next)) in
        let chances
        = total-weighted_times (λ (o : Outcome S). o.weight) (λ o. going (behind n policy) k o.next) (suc k * p.den ^ n) (p.step a s) in
        let split = total-weighted_add (λ (o : Outcome S). o.weight) (λ o. p.den ^ k * p.den ^ n) (λ o. steps policy (k + n) o.next) (p.step a s) in
        let step
        = total-weighted_constant (λ (o : Outcome S). o.weight) p.den (p.den ^ k * p.den ^ n) (p.step a s) (whole a s (are (k + n) s a off some)) in
        let power : p.den * (p.den ^ k * p.den ^ n) ≡ p.den ^ suc (k + n)
        = ap (λ t. p.den * t) (sym (pow-add p.den k n)) ∙ power_suc (k + n) in
        omega (arith, each, chances, split, step, power)) in
        let same : suc k + n ≡ suc (k + n) = omega arith in
        rw same after
