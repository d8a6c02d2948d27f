-- Means over the starts of values that no plan is below.
--     IsBelowPlans p v s     no plan that fits costs less than v from s
use Rattle.std.proofs.Common.{ℕ, ◌*◌, ◌^◌, ◌≤◌, max, List, [], ◌∷◌, sym, subst, inl, inr, arith}
use Rattle.std.specs.Prelude.{Contains}
use Rattle.std.proofs.Math.Nat.{mul-le-mul_left, mul-le-mul_right}
use Rattle.plain_list.proofs.Members.{Contains-first, Contains-later}
use Rattle.plain_list.proofs.lemmas.weighted.Totals.{total-weighted_times, total-weighted_le}
use Rattle.decision_process.specs.Process.{Process, Start, at_starts}
use Rattle.decision_process.specs.Plans.{Plan, Plans, Done, Then, depth, deepest, Fits, cost}
use Rattle.decision_process.specs.Enclosing.{FitStarts, cost_starts}
use Rattle.decision_process.specs.under.Under.{under_mean}
use Rattle.decision_process.specs.under.Laws.{UnderMeanIsBelowPlans, UnderMeanIsHigher}
use Rattle.decision_process.proofs.Rounding.{floor-times_le, floor_rises}
use Rattle.decision_process.proofs.LowerBounds.{bound_le_cost}
use Rattle.decision_process.proofs.Balance.{low_is_lower_bound}
use Rattle.decision_process.proofs.Covering.{covered_le_cost}
use Rattle.decision_process.proofs.lemmas.under.Values.{greater_of_two}

module _ {S A : Type 0} (p : Process S A) where
  IsBelowPlans : ℕ → S → Type 0
  IsBelowPlans value s = (plan : Plan A) (n : ℕ) → Fits p plan s → depth plan ≤ n → value * p.den ^ n ≤ cost p plan n s

  -- the greater of two such values is one
  greater_below : (a b : ℕ) (s : S) → IsBelowPlans a s → IsBelowPlans b s → IsBelowPlans (max a b) s
  greater_below a b s first second = elim (greater_of_two a b) [
    | inl is ↦ subst (λ n. IsBelowPlans n s) (sym is) first
    | inr is ↦ subst (λ n. IsBelowPlans n s) (sym is) second
  ]

  -- values below each start's plans are below the plans of all
  module _ (value : S → ℕ) where
    starts_below : (plans : Plans A) (n : ℕ) (starts : List (Start S))
        → ((x : Start S) → Contains starts x → IsBelowPlans (value x.state) x.state)
        → FitStarts p plans starts → deepest plans ≤ n
        → at_starts (λ s. value s * p.den ^ n) starts ≤ cost_starts p plans n starts
    unfolding IsBelowPlans
    starts_below Done n [] each fits deep = omega arith
    starts_below Done n (start ∷ starts) each fits deep = absurd fits
    starts_below (Then plan rest) n [] each fits deep = absurd fits
    starts_below (Then plan rest) n (start ∷ starts) each fits deep =
        let first : start.weight * (value start.state * p.den ^ n) ≤ start.weight * cost p plan n start.state
        = mul-le-mul_left start.weight (each start (Contains-first start starts) plan n fits.0 (omega arith)) in
        let later : at_starts (λ s. value s * p.den ^ n) starts ≤ cost_starts p rest n starts
        = starts_below rest n starts (λ x inside. each x (Contains-later start starts x inside)) fits.1 (omega arith) in
        omega (arith, first, later)

    -- and so is what is at most their mean
    mean_below : (starts : List (Start S)) (start_den lower : ℕ) → lower * start_den ≤ at_starts value starts
        → ((x : Start S) → Contains starts x → IsBelowPlans (value x.state) x.state)
        → (plans : Plans A) (n : ℕ) → FitStarts p plans starts → deepest plans ≤ n
        → lower * start_den * p.den ^ n ≤ cost_starts p plans n starts
    mean_below starts start_den lower below each plans n fits deep =
        let scaled : lower * start_den * p.den ^ n ≤ at_starts value starts * p.den ^ n = mul-le-mul_right (p.den ^ n) below in
        let turned = total-weighted_times (λ (x : Start S). x.weight) (λ x. value x.state) (p.den ^ n) starts in
        omega (arith, scaled, turned, starts_below plans n starts each fits deep)

  pub under_mean_is_below_plans : UnderMeanIsBelowPlans p
  unfolding IsBelowPlans
  under_mean_is_below_plans positive low high act balance value starts start_den covers =
      mean_below (λ s. max (low s) (value s)) starts start_den (under_mean low value starts start_den)
      (floor-times_le (at_starts (λ s. max (low s) (value s)) starts) start_den)
      (λ x inside. greater_below (low x.state) (value x.state) x.state
      (λ plan n fits deep. bound_le_cost p (λ m s. low s * p.den ^ m) (low_is_lower_bound p low high act balance) plan n x.state fits deep)
      (covered_le_cost p positive (value x.state) x.state (covers x inside)))

pub under_mean_is_higher : {S : Type 0} → UnderMeanIsHigher S
under_mean_is_higher low value starts start_den =
    floor_rises (at_starts low starts) (at_starts (λ s. max (low s) (value s)) starts) start_den
    (total-weighted_le (λ x. x.weight) (λ x. low x.state) (λ x. max (low x.state) (value x.state)) starts (λ x inside. omega arith))
