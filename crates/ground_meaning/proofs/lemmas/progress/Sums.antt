-- Weighted sums: of values that are added, and of what is constant; and values that are chosen by cases, two at a time.
use Rattle.std.proofs.Common.{◌≡◌, ℕ, ◌+◌, ◌*◌, Bool, true, false, cond, List, Option, Some, None, refl, ap, ◌∙◌}
use Rattle.std.proofs.Math.Nat.{mul-add}
use Rattle.plain_list.specs.weighted.Mean.{total}
use Rattle.plain_list.proofs.lemmas.weighted.Totals.{total-same, total-add, total-times}
use Rattle.decision_process.specs.Policies.{by_act}

pub total-weighted_add : {C : Type 0} (w f g : C → ℕ) (xs : List C)
    → total (λ c. w c * (f c + g c)) xs ≡ total (λ c. w c * f c) xs + total (λ c. w c * g c) xs
total-weighted_add w f g xs =
    total-same (λ c. w c * (f c + g c)) (λ c. w c * f c + w c * g c) xs (λ c _. mul-add (w c) (f c) (g c))
    ∙ total-add (λ c. w c * f c) (λ c. w c * g c) xs

pub total-weighted_constant : {C : Type 0} (w : C → ℕ) (den k : ℕ) (xs : List C) → total w xs ≡ den
    → total (λ c. w c * k) xs ≡ den * k
total-weighted_constant w den k xs whole = total-times w k xs ∙ ap (λ t. t * k) whole

-- at a goal, and where the act gives up, both values are 0
pub step_cases : {A : Type 0} (goal : Bool) (act : Option A) (P : ℕ → ℕ → Type 0) (f g : A → ℕ)
    → (goal ≡ true → P 0 0) → (goal ≡ false → act ≡ None → P 0 0)
    → ((a : A) → goal ≡ false → act ≡ Some a → P (f a) (g a))
    → P (cond goal 0 (by_act act 0 f)) (cond goal 0 (by_act act 0 g))
step_cases true act P f g on quits takes = on refl
step_cases false None P f g on quits takes = quits refl refl
step_cases false (Some a) P f g on quits takes = takes a refl refl
