-- The value of an action over more steps: each cost and each reading times a power of the denominator.
use Rattle.std.proofs.Common.{◌≡◌, ℕ, suc, ◌+◌, ◌*◌, ◌^◌, ◌≤◌, ap, sym, ◌∙◌, arith}
use Rattle.std.specs.Prelude.{Contains}
use Rattle.std.proofs.Math.Nat.{add-mul, pow-suc, mul-le-mul_right}
use Rattle.plain_list.proofs.lemmas.weighted.Totals.{total-same, total-weighted_times, total-weighted_le}
use Rattle.decision_process.specs.Process.{Process, Outcome, expected}
use Rattle.decision_process.specs.Backup.{action_value}

power_inside : (value d t : ℕ) → value * (t * d) ≡ value * d * t
power_inside value d t = grind arith

module _ {S A : Type 0} (p : Process S A) (n value : ℕ) (v u : S → ℕ) (a : A) (s : S) where
  scaled : action_value p v a s * p.den ^ n ≡ expected (λ o. o.cost * p.den ^ n + v o.next * p.den ^ n) (p.step a s)
  scaled =
      sym (total-weighted_times (λ o. o.weight) (λ o. o.cost + v o.next) (p.den ^ n) (p.step a s))
      ∙ total-same (λ o. o.weight * ((o.cost + v o.next) * p.den ^ n)) (λ o. o.weight * (o.cost * p.den ^ n + v o.next * p.den ^ n)) (p.step a s)
      (λ o _. ap (λ t. o.weight * t) (add-mul o.cost (v o.next) (p.den ^ n)))

  one_power_more : value * p.den ^ suc n ≡ value * p.den * p.den ^ n
  one_power_more = ap (λ t. value * t) (pow-suc p.den n) ∙ power_inside value p.den (p.den ^ n)

  -- a value that the readings allow is at most what comes of greater ones
  pub value-le_scaled : value * p.den ≤ action_value p v a s
      → ((o : Outcome S) → Contains (p.step a s) o → v o.next * p.den ^ n ≤ u o.next)
      → value * p.den ^ suc n ≤ expected (λ o. o.cost * p.den ^ n + u o.next) (p.step a s)
  value-le_scaled allowed greater =
      let here : value * p.den * p.den ^ n ≤ action_value p v a s * p.den ^ n = mul-le-mul_right (p.den ^ n) allowed in
      let each : expected (λ o. o.cost * p.den ^ n + v o.next * p.den ^ n) (p.step a s) ≤ expected (λ o. o.cost * p.den ^ n + u o.next) (p.step a s)
      = total-weighted_le (λ o. o.weight) (λ o. o.cost * p.den ^ n + v o.next * p.den ^ n) (λ o. o.cost * p.den ^ n + u o.next) (p.step a s)
      (λ o inside. omega (arith, greater o inside)) in
      omega (arith, here, each, scaled, one_power_more)

  -- a value that covers the readings covers what comes of them
  pub scaled-le_value : action_value p v a s ≤ value * p.den
      → expected (λ o. o.cost * p.den ^ n + v o.next * p.den ^ n) (p.step a s) ≤ value * p.den ^ suc n
  scaled-le_value covers =
      let here : action_value p v a s * p.den ^ n ≤ value * p.den * p.den ^ n = mul-le-mul_right (p.den ^ n) covers in
      omega (arith, here, scaled, one_power_more)
