-- Sub- and super-solutions, apart and together.
use Rattle.std.proofs.Common.{◌≡◌, ◌⊎◌, ℕ, ◌≤◌, max, Bool, true, false, Option, None, Some, refl, sym, subst, inl, inr, arith}
use Rattle.decision_process.specs.Process.{Process}
use Rattle.decision_process.specs.Following.{IsLowerFrom, IsUpperFrom}
use Rattle.balanced_pair.specs.Laws as laws

pub acts_or_quits : {A : Type 0} (a : A) → ◌≡◌ {A = Option A} None (Some a) → ⊥
acts_or_quits a e = cc

pub off_or_on : (b : Bool) {X : Type 0} → b ≡ true → b ≡ false → X
off_or_on b on off = absurd cc

pub greater_of_two : (m n : ℕ) → (max m n ≡ m) ⊎ (max m n ≡ n)
greater_of_two m n = grind arith

module _ {S A : Type 0} (p : Process S A) where
  -- the greater of two lower values follows where both do
  pub greater_follows : (low : S → ℕ) (s : S) (m n : ℕ) → IsLowerFrom p low s m → IsLowerFrom p low s n → IsLowerFrom p low s (max m n)
  greater_follows low s m n left right = elim (greater_of_two m n) [
    | inl is ↦ subst (λ value. IsLowerFrom p low s value) (sym is) left
    | inr is ↦ subst (λ value. IsLowerFrom p low s value) (sym is) right
  ]

  -- 0 follows wherever
  pub zero_follows : (low : S → ℕ) (s : S) → IsLowerFrom p low s 0
  zero_follows low s = record {
    at_goal = λ _. refl;
    within_quit = λ _. omega arith;
    within_step = λ a _ _. omega arith;
  }

  -- at a goal nothing is asked of an upper value
  pub upper_at_goal : (high : S → ℕ) (s : S) (act : Option A) (value : ℕ) → p.goal s ≡ true → IsUpperFrom p high s act value
  upper_at_goal high s act value on = record {
    covers_quit = λ off _. off_or_on (p.goal s) on off;
    is_open = λ a off _. off_or_on (p.goal s) on off;
    covers_step = λ a off _. off_or_on (p.goal s) on off;
  }

  -- the penalty covers giving up
  pub quit_follows : (high : S → ℕ) (s : S) (value : ℕ) → (p.goal s ≡ false → p.penalty ≤ value) → IsUpperFrom p high s None value
  quit_follows high s value covers = record {
    covers_quit = λ off _. covers off;
    is_open = λ a _ some. absurd (acts_or_quits a some);
    covers_step = λ a _ some. absurd (acts_or_quits a some);
  }

  pub halves_are_balanced : laws.HalvesAreBalanced p
  halves_are_balanced low high act = (
    λ balanced. (
      λ s. (balanced s).low_follows,
      record { at_goal = λ s. (balanced s).high_at_goal; follows = λ s. (balanced s).high_follows },
    ),
    λ halves s. record { low_follows = halves.0 s; high_at_goal = halves.1.at_goal s; high_follows = halves.1.follows s },
  )
