-- The act that a lower backup has its value from, and what rounding loses and gains.
use Rattle.std.proofs.Common.{◌≡◌, ℕ, ◌+◌, ◌*◌, ◌<◌, ◌≤◌, false, Option, None, Some, sym, subst, arith}
use Rattle.std.specs.Prelude.{Contains}
use Rattle.std.proofs.Math.Nat.{lt-div-mul-add, mul-le-mul_right}
use Rattle.std.proofs.lemmas.Grind.{div_ceil_times}
use Rattle.decision_process.specs.Process.{Process}
use Rattle.decision_process.specs.Backup.{floor, ceiling, action_value, lower_candidate, upper_candidate, lower_backup, upper_backup}
use Rattle.decision_process.proofs.Choice.{best_cases, best-le_action}

pub floor_loses_less : (x d : ℕ) → 0 < d → x ≤ floor x d * d + d
floor_loses_less x d positive = let below : x < floor x d * d + d = lt-div-mul-add positive in omega (arith, below)

pub ceiling_gains_less : (x d : ℕ) → 0 < d → ceiling x d * d ≤ x + d
ceiling_gains_less x d positive = omega (arith, (div_ceil_times x d positive).1)

same_action : {A : Type 0} (a b : A) → Some a ≡ Some b → a ≡ b
same_action a b e = cc

acts_or_quits : {A : Type 0} (a : A) → Some a ≡ None → ⊥
acts_or_quits a e = cc

module _ {S A : Type 0} (p : Process S A) where
  pub record IsAttained (low : S → ℕ) (s : S) (act : Option A) (value : ℕ) : Type 0 where
    pub quits : p.goal s ≡ false → act ≡ None → p.penalty ≤ value
    pub is_open : (a : A) → p.goal s ≡ false → act ≡ Some a → Contains (p.choices s) a
    pub takes : (a : A) → p.goal s ≡ false → act ≡ Some a → action_value p low a s ≤ value * p.den + p.den

  floored : (S → ℕ) → S → A → ℕ
  floored low s a = lower_candidate p low a s

  pub lower_backup_is_attained : 0 < p.den → (low : S → ℕ) (s : S) → (act : Option A) × IsAttained low s act (lower_backup p low s)
  unfolding floored
  lower_backup_is_attained positive low s =
      best_cases (p.goal s) p.penalty (floored low s) (p.choices s) (λ value. (act : Option A) × IsAttained low s act value)
      (λ on. (None, record { quits = λ off none. absurd cc; is_open = λ a off some. absurd cc; takes = λ a off some. absurd cc }))
      (λ off. (
        None,
        record {
          quits = λ _ none. omega arith;
          is_open = λ a _ some. absurd (acts_or_quits a (sym some));
          takes = λ a _ some. absurd (acts_or_quits a (sym some));
        },
      ))
      (λ a off is_open. (
        Some a,
        record {
          quits = λ _ none. absurd (acts_or_quits a none);
          is_open = λ b _ some. subst (Contains (p.choices s)) (same_action a b some) is_open;
          takes = λ b _ some. subst (λ c. action_value p low c s ≤ floored low s a * p.den + p.den) (same_action a b some)
              (floor_loses_less (action_value p low a s) p.den positive);
        },
      ))

  ceiled : (S → ℕ) → S → A → ℕ
  ceiled high s a = upper_candidate p high a s

  pub upper_backup-le_action : 0 < p.den → (high : S → ℕ) (s : S) (a : A) → Contains (p.choices s) a
      → upper_backup p high s * p.den ≤ action_value p high a s + p.den
  unfolding ceiled
  upper_backup-le_action positive high s a is_open =
      let scaled : upper_backup p high s * p.den ≤ ceiled high s a * p.den
      = mul-le-mul_right p.den (best-le_action (p.goal s) p.penalty (ceiled high s) (p.choices s) a is_open) in
      omega (arith, scaled, ceiling_gains_less (action_value p high a s) p.den positive)
