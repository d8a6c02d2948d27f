-- Sub-solutions are uncut, and a value that follows from uncut values is; on the coin the optimum is uncut and does not cover from below.
use Rattle.std.proofs.Common.{◌≡◌, ℕ, suc, zero, ◌+◌, ◌*◌, ◌^◌, ◌≤◌, Bool, true, false, cond, List, [], ◌∷◌, None, refl, ap, ◌∙◌, arith}
use Rattle.std.specs.Prelude.{Contains}
use Rattle.std.proofs.Math.Nat.{mul-le-mul_left, mul-le-mul_right, pow-suc}
use Rattle.plain_list.proofs.Members.{Contains-first, Contains-later}
use Rattle.decision_process.specs.Process.{Process, Outcome, expected}
use Rattle.decision_process.specs.Plans.{Quit, Do, Plans, Done, Then, deepest, FitEach, cost, cost_each}
use Rattle.decision_process.specs.Least.{least}
use Rattle.decision_process.specs.Rounded.{up}
use Rattle.decision_process.specs.Coin.{coin, heads, tails, flip}
use Rattle.decision_process.proofs.Balance.{balanced_encloses}
use Rattle.decision_process.proofs.Covering.{covered_le_cost}
use Rattle.decision_process.proofs.Choice.{min_with_is_least}
use Rattle.balanced_pair.specs.uncut.Uncut.{IsUncut}
use Rattle.balanced_pair.specs.uncut.Laws as laws
use Rattle.balanced_pair.proofs.Halves.{halves_are_balanced}
use Rattle.balanced_pair.proofs.Plain.{plain_is_balanced}
use Rattle.balanced_pair.proofs.Scaled.{value-le_scaled}

goal_cases : (b : Bool) (P : ℕ → Type 0) (value : ℕ) → (b ≡ true → P 0) → (b ≡ false → P value) → P (cond b 0 value)
goal_cases true P value on off = on refl
goal_cases false P value on off = off refl

module _ {S A : Type 0} (p : Process S A) where
  -- with giving up it makes balanced readings, and these enclose the cost from the state
  pub sub_solution_is_uncut : laws.SubSolutionIsUncut p
  sub_solution_is_uncut low lower s plan n fits deep =
      let plain = (halves_are_balanced p (λ t. 0) (up p 0) (λ t. None)).0 (plain_is_balanced p) in
      let balanced = (halves_are_balanced p low (up p 0) (λ t. None)).1 (lower, plain.1) in
      let encloses
      = balanced_encloses p low (up p 0) (λ t. None) balanced (record { weight = 1; state = s } ∷ []) 1 (low s) (up p 0 s)
      (omega arith) (omega arith) in
      let one : low s * 1 * p.den ^ n ≡ low s * p.den ^ n = ap (λ m. m * p.den ^ n) (omega arith) in
      omega (arith, one, encloses.no_plan_below (Then plan Done) n (fits, tt) (omega arith))

  uncut_each : (low : S → ℕ) (subplans : Plans A) (n : ℕ) (outcomes : List (Outcome S))
      → ((o : Outcome S) → Contains outcomes o → IsUncut p (low o.next) o.next)
      → FitEach p subplans outcomes → deepest subplans ≤ n
      → expected (λ o. o.cost * p.den ^ n + low o.next * p.den ^ n) outcomes ≤ cost_each p subplans n outcomes
  uncut_each low Done n [] uncut fits deep = omega arith
  uncut_each low Done n (o ∷ outcomes) uncut fits deep = absurd fits
  uncut_each low (Then plan rest) n [] uncut fits deep = absurd fits
  uncut_each low (Then plan rest) n (o ∷ outcomes) uncut fits deep =
      let here : low o.next * p.den ^ n ≤ cost p plan n o.next
      = uncut o (Contains-first o outcomes) plan n fits.0 (omega arith) in
      let first : o.weight * (o.cost * p.den ^ n + low o.next * p.den ^ n) ≤ o.weight * (o.cost * p.den ^ n + cost p plan n o.next)
      = mul-le-mul_left o.weight (omega (arith, here)) in
      let later : expected (λ x. x.cost * p.den ^ n + low x.next * p.den ^ n) outcomes ≤ cost_each p rest n outcomes
      = uncut_each low rest n outcomes (λ x inside. uncut x (Contains-later o outcomes x inside)) fits.1 (omega arith) in
      omega (arith, first, later)

  pub raised_is_uncut : laws.RaisedIsUncut p
  raised_is_uncut low s value follows uncut Quit n fits deep =
      goal_cases (p.goal s) (λ paid. value * p.den ^ n ≤ paid) (p.penalty * p.den ^ n)
      (λ on. let none : value * p.den ^ n ≡ 0 = ap (λ m. m * p.den ^ n) (follows.at_goal on) ∙ omega arith in omega (arith, none))
      (λ off. mul-le-mul_right (p.den ^ n) (follows.within_quit off))
  raised_is_uncut low s value follows uncut (Do a subplans) zero fits deep = absurd (omega arith)
  raised_is_uncut low s value follows uncut (Do a subplans) (suc n) fits deep =
      goal_cases (p.goal s) (λ paid. value * p.den ^ suc n ≤ paid) (cost_each p subplans n (p.step a s))
      (λ on. let none : value * p.den ^ suc n ≡ 0 = ap (λ m. m * p.den ^ suc n) (follows.at_goal on) ∙ omega arith in omega (arith, none))
      (λ off.
      omega (
        arith,
        value-le_scaled p n value low (λ t. low t * p.den ^ n) a s (follows.within_step a off (fits off).0) (λ o _. omega arith),
        uncut_each low subplans n (p.step a s) (λ o inside. uncut off a (fits off).0 o inside) (fits off).1 (omega arith),
      ))

module _ {S A : Type 0} (p : Process S A) where
  pub covered_is_uncut : laws.CoveredIsUncut p
  covered_is_uncut positive value s covers = covered_le_cost p positive value s covers

least_at_heads : (n : ℕ) → least coin n heads ≡ 0
least_at_heads zero = refl
least_at_heads (suc n) = refl

-- n steps of the coin cost less than its optimum
less_than_optimum : (n : ℕ) → least coin n tails + 2000000 ≤ 2000000 * 2 ^ n
less_than_optimum zero = omega arith
less_than_optimum (suc n) =
    let power : 2 ^ suc n ≡ 2 ^ n * 2 = pow-suc 2 n in
    let step : least coin (suc n) tails ≤ expected (λ o. o.cost * 2 ^ n + least coin n o.next) (coin.step flip tails)
    = (min_with_is_least (10000000 * 2 ^ suc n) (λ a. expected (λ o. o.cost * 2 ^ n + least coin n o.next) (coin.step a tails))
    (flip ∷ [])).within_each flip (Contains-first flip []) in
    omega (arith, power, step, least_at_heads n, less_than_optimum n)

pub optimum_does_not_cover : laws.OptimumDoesNotCover
optimum_does_not_cover covers = absurd (omega (arith, covers.1, less_than_optimum covers.0))
