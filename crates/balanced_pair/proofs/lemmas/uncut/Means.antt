-- The greater of two uncut values, and means of uncut values over the starts.
use Rattle.std.proofs.Common.{ℕ, ◌*◌, ◌^◌, ◌≤◌, List, [], ◌∷◌, sym, subst, inl, inr, arith}
use Rattle.std.specs.Prelude.{Contains}
use Rattle.std.proofs.Math.Nat.{mul-le-mul_left, mul-le-mul_right}
use Rattle.plain_list.proofs.Members.{Contains-first, Contains-later}
use Rattle.plain_list.proofs.lemmas.weighted.Totals.{total-weighted_times}
use Rattle.decision_process.specs.Process.{Process, Start, at_starts}
use Rattle.decision_process.specs.Plans.{Plans, Done, Then, deepest, cost}
use Rattle.decision_process.specs.Enclosing.{FitStarts, cost_starts}
use Rattle.decision_process.specs.Backup.{floor}
use Rattle.decision_process.proofs.Rounding.{floor-times_le}
use Rattle.balanced_pair.specs.uncut.Uncut.{IsUncut}
use Rattle.balanced_pair.specs.uncut.Laws as laws
use Rattle.balanced_pair.proofs.Halves.{greater_of_two}

module _ {S A : Type 0} (p : Process S A) where
  pub greater_is_uncut : laws.GreaterIsUncut p
  greater_is_uncut value other s first second = elim (greater_of_two value other) [
    | inl is ↦ subst (λ n. IsUncut p n s) (sym is) first
    | inr is ↦ subst (λ n. IsUncut p n s) (sym is) second
  ]

  starts_below : (value : S → ℕ) (plans : Plans A) (n : ℕ) (starts : List (Start S))
      → ((x : Start S) → Contains starts x → IsUncut p (value x.state) x.state)
      → FitStarts p plans starts → deepest plans ≤ n
      → at_starts (λ s. value s * p.den ^ n) starts ≤ cost_starts p plans n starts
  starts_below value Done n [] uncut fits deep = omega arith
  starts_below value Done n (start ∷ starts) uncut fits deep = absurd fits
  starts_below value (Then plan rest) n [] uncut fits deep = absurd fits
  starts_below value (Then plan rest) n (start ∷ starts) uncut fits deep =
      let first : start.weight * (value start.state * p.den ^ n) ≤ start.weight * cost p plan n start.state
      = mul-le-mul_left start.weight (uncut start (Contains-first start starts) plan n fits.0 (omega arith)) in
      let later : at_starts (λ s. value s * p.den ^ n) starts ≤ cost_starts p rest n starts
      = starts_below value rest n starts (λ x inside. uncut x (Contains-later start starts x inside)) fits.1 (omega arith) in
      omega (arith, first, later)

  pub uncut_mean_is_below_plans : laws.UncutMeanIsBelowPlans p
  uncut_mean_is_below_plans value starts start_den uncut plans n fits deep =
      let below : floor (at_starts value starts) start_den * start_den ≤ at_starts value starts
      = floor-times_le (at_starts value starts) start_den in
      let scaled : floor (at_starts value starts) start_den * start_den * p.den ^ n ≤ at_starts value starts * p.den ^ n
      = mul-le-mul_right (p.den ^ n) below in
      let turned = total-weighted_times (λ (x : Start S). x.weight) (λ x. value x.state) (p.den ^ n) starts in
      omega (arith, scaled, turned, starts_below value plans n starts uncut fits deep)
