-- Values that are known of one state from below.
use Rattle.std.proofs.Common.{◌≡◌, ℕ, ◌+◌, ◌*◌, ◌^◌, ◌≤◌, min, max, ap, subst, sym, ◌∙◌, inl, inr, ◌⊎◌, arith}
use Rattle.std.specs.Prelude.{Contains}
use Rattle.std.proofs.Math.Nat.{mul-le-mul_right, pow-suc, pow-zero}
use Rattle.plain_list.specs.weighted.Mean.{total}
use Rattle.plain_list.proofs.lemmas.weighted.Totals.{total-times, total-weighted_le}
use Rattle.decision_process.specs.Process.{Process, Outcome, HasDenominator, CostsAtLeast}
use Rattle.decision_process.specs.Least.{least}
use Rattle.decision_process.specs.under.Laws.{ZeroIsUnder, SmallerIsUnder, LeastStepIsUnder, GreaterCovers}
use Rattle.decision_process.proofs.ActionValues.{scaled_value}
use Rattle.decision_process.proofs.LeastCost.{le-least}

pub greater_of_two : (m n : ℕ) → (max m n ≡ m) ⊎ (max m n ≡ n)
greater_of_two m n = grind arith

one_power : (d : ℕ) → d ^ 1 ≡ d
one_power d = let e : d ^ 1 ≡ d ^ 0 * d = pow-suc d 0 in let z : d ^ 0 ≡ 1 = pow-zero d in e ∙ ap (λ t. t * d) z ∙ omega arith

module _ {S A : Type 0} (p : Process S A) where
  pub zero_is_under : ZeroIsUnder p
  zero_is_under s = (omega arith, (0, omega arith))

  pub smaller_is_under : SmallerIsUnder p
  smaller_is_under value smaller s below under =
      let scaled : smaller * p.den ^ under.1.0 ≤ value * p.den ^ under.1.0 = mul-le-mul_right (p.den ^ under.1.0) below in
      let quit = under.0 in let covers = under.1.1 in (omega arith, (under.1.0, omega arith))

  -- a step costs at least so much
  step_value : HasDenominator p → (c : ℕ) → CostsAtLeast p c → (a : A) (s : S) → Contains (p.choices s) a
      → c * p.den ≤ scaled_value p (p.den ^ 0) (least p 0) a s
  step_value weights c costs a s inside =
      let one : p.den ^ 0 ≡ 1 = pow-zero p.den in
      let each : total (λ (o : Outcome S). o.weight * c) (p.step a s) ≤ scaled_value p (p.den ^ 0) (least p 0) a s
      = total-weighted_le (λ (o : Outcome S). o.weight) (λ o. c) (λ o. o.cost * p.den ^ 0 + least p 0 o.next) (p.step a s)
      (λ o there.
      let same : o.cost * p.den ^ 0 ≡ o.cost * 1 = ap (λ t. o.cost * t) one in
      let above : c ≤ o.cost = costs a s inside o there in omega arith) in
      let whole : total (λ (o : Outcome S). o.weight * c) (p.step a s) ≡ p.den * c
      = total-times (λ (o : Outcome S). o.weight) c (p.step a s) ∙ ap (λ t. t * c) (weights a s inside) in
      let turned : p.den * c ≡ c * p.den = grind arith in
      omega arith

  pub least_step_is_under : LeastStepIsUnder p
  least_step_is_under weights c costs s off =
      let one : p.den ^ 1 ≡ p.den = one_power p.den in
      let value : ℕ = min p.penalty c in (
        omega arith,
        (
          1,
          le-least p 0 (min p.penalty c * p.den ^ 1) s (λ on. absurd cc)
              (λ _. mul-le-mul_right (p.den ^ 1) (omega arith))
              (λ a _ inside.
              let smaller : min p.penalty c * p.den ≤ c * p.den = mul-le-mul_right p.den (omega arith) in
              let same : min p.penalty c * p.den ^ 1 ≡ min p.penalty c * p.den = ap (λ t. min p.penalty c * t) one in
              let step = step_value weights c costs a s inside in
              omega arith),
        ),
      )

  pub greater_covers : GreaterCovers p
  greater_covers a b s first second = elim (greater_of_two a b) [
    | inl is ↦ subst (λ n. (m : ℕ) × (n * p.den ^ m ≤ least p m s)) (sym is) first
    | inr is ↦ subst (λ n. (m : ℕ) × (n * p.den ^ m ≤ least p m s)) (sym is) second
  ]
