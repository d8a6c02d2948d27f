-- How wide the bounds of a state can still be: along the policy that the lower bounds have their values from.
use Rattle.std.proofs.Common.{◌≡◌, ℕ, suc, zero, ◌+◌, ◌*◌, ◌^◌, ◌<◌, ◌≤◌, cond, Option, ap, add-one, arith}
use Rattle.std.proofs.Math.Nat.{add-mul, pow-suc, pow-zero, one-le-pow, mul-le-mul_left, mul-le-mul_right, le_of_mul-le-mul_right}
use Rattle.plain_list.proofs.lemmas.weighted.Totals.{total-weighted_times, total-weighted_le}
use Rattle.decision_process.specs.Process.{Process, Outcome, expected, HasDenominator, CostsAtLeast}
use Rattle.decision_process.specs.Backup.{action_value, lower_candidate}
use Rattle.decision_process.specs.Rounded.{down, up}
use Rattle.decision_process.proofs.Cases.{goal_cases}
use Rattle.decision_process.proofs.Choice.{best-le_quit}
use Rattle.decision_process.proofs.Backups.{upper_backup_at_goal, upper_backup-le_penalty}
use Rattle.decision_process.proofs.Iteration.{down_rises, up_falls}
use Rattle.ground_meaning.specs.progress.Width.{IsNarrow}
use Rattle.ground_meaning.specs.progress.Laws as laws
use Rattle.ground_meaning.proofs.lemmas.progress.Sums.{total-weighted_add, total-weighted_constant, step_cases}
use Rattle.ground_meaning.proofs.lemmas.progress.Horizon.{behind, going, steps, ArePolicies, going_on, going_takes_steps}
use Rattle.ground_meaning.proofs.lemmas.progress.Attained.{IsAttained, lower_backup_is_attained, upper_backup-le_action}

-- ---- of numbers alone

-- a step that is taken: it costs c beyond what its floor loses
step_pays : (c d e taken value paid : ℕ) → d * ((c + 1) * e) + taken * c ≤ paid * e → paid ≤ value * d + d
    → (e * d + taken) * c ≤ value * (e * d)
step_pays c d e taken value paid costs loses =
    let scaled : paid * e ≤ (value * d + d) * e = mul-le-mul_right e loses in
    let left : d * ((c + 1) * e) + taken * c ≡ (e * d + taken) * c + e * d = grind arith in
    let right : (value * d + d) * e ≡ value * (e * d) + e * d = grind arith in
    omega (arith, costs, scaled, left, right)

-- the same readings apart, with a cost
apart : (cost high low e more : ℕ) → high * e ≤ low * e + more → (cost + high) * e ≤ (cost + low) * e + more
apart cost high low e more within =
    let left : (cost + high) * e ≡ cost * e + high * e = add-mul cost high e in
    let right : (cost + low) * e ≡ cost * e + low * e = add-mul cost low e in
    omega (arith, within, left, right)

-- a step that is taken: its ceiling gains and its floor loses less than 1
step_widens : (d e high low dear cheap on taken : ℕ) → high * d ≤ dear + d → cheap ≤ low * d + d
    → dear * e ≤ cheap * e + (on + taken * 2) → high * (e * d) ≤ low * (e * d) + (on + (e * d + taken) * 2)
step_widens d e high low dear cheap on taken gains loses within =
    let raised : high * d * e ≤ (dear + d) * e = mul-le-mul_right e gains in
    let sunk : cheap * e ≤ (low * d + d) * e = mul-le-mul_right e loses in
    let left : high * d * e ≡ high * (e * d) = grind arith in
    let dears : (dear + d) * e ≡ dear * e + e * d = grind arith in
    let cheaps : (low * d + d) * e ≡ low * (e * d) + e * d = grind arith in
    let twice : (e * d + taken) * 2 ≡ e * d + e * d + taken * 2 = omega arith in
    omega (arith, raised, sunk, left, dears, cheaps, twice, within)

-- N rounds more halve what goes on
halves : (c N top half e full on first taken : ℕ) → 2 * top ≤ N * c → on * (top * half) ≤ first * (top * e)
    → first * (N * e) ≤ taken → taken * c ≤ top * full → on * (top * (half * 2)) ≤ top * full
halves c N top half e full on first taken many going_on takes pays =
    let twice : on * (top * half) * 2 ≤ first * (top * e) * 2 = mul-le-mul_right 2 going_on in
    let enough : first * e * (2 * top) ≤ first * e * (N * c) = mul-le-mul_left (first * e) many in
    let paid : first * (N * e) * c ≤ taken * c = mul-le-mul_right c takes in
    let left : on * (top * half) * 2 ≡ on * (top * (half * 2)) = grind arith in
    let middle : first * (top * e) * 2 ≡ first * e * (2 * top) = grind arith in
    let right : first * e * (N * c) ≡ first * (N * e) * c = grind arith in
    omega (arith, twice, enough, paid, left, middle, right, pays)

-- the three together
narrow_of : (c t top e high low on taken : ℕ) → 0 < e → high * e ≤ low * e + (on * top + taken * 2) → on * (top * t) ≤ top * e
    → taken * c ≤ top * e → c * t * high ≤ c * t * low + c * top + t * 2 * top
narrow_of c t top e high low on taken positive apart fades pays =
    let widths : c * t * (high * e) ≤ c * t * (low * e + (on * top + taken * 2)) = mul-le-mul_left (c * t) apart in
    let fading : c * (on * (top * t)) ≤ c * (top * e) = mul-le-mul_left c fades in
    let paying : t * 2 * (taken * c) ≤ t * 2 * (top * e) = mul-le-mul_left (t * 2) pays in
    let left : c * t * high * e ≡ c * t * (high * e) = grind arith in
    let middle : c * t * (low * e + (on * top + taken * 2)) ≡ c * t * (low * e) + c * (on * (top * t)) + t * 2 * (taken * c) = grind arith in
    let right : (c * t * low + c * top + t * 2 * top) * e ≡ c * t * (low * e) + c * (top * e) + t * 2 * (top * e) = grind arith in
    let scaled : c * t * high * e ≤ (c * t * low + c * top + t * 2 * top) * e = omega (arith, widths, fading, paying, left, middle, right) in
    le_of_mul-le-mul_right scaled positive

module _ {S A : Type 0} (p : Process S A) where
  lowered : (S → ℕ) → S → A → ℕ
  lowered low s a = lower_candidate p low a s

  down_le_penalty : (n : ℕ) (s : S) → down p n s ≤ p.penalty
  unfolding lowered
  down_le_penalty zero s = omega arith
  down_le_penalty (suc n) s = best-le_quit (p.goal s) p.penalty (lowered (down p n) s) (p.choices s)

  module _ (positive : 0 < p.den) where
    -- with n + 1 steps left, the act that the lower bound of n + 1 rounds has its value from
    attained : (n : ℕ) (s : S) → (act : Option A) × IsAttained p (down p n) s act (down p (suc n) s)
    attained n s = lower_backup_is_attained p positive (down p n) s

    pub policy : ℕ → S → Option A
    policy n s = (attained n s).0

    attains : (n : ℕ) (s : S) → IsAttained p (down p n) s (policy n s) (down p (suc n) s)
    unfolding policy
    attains n s = (attained n s).1

    are_policies : ArePolicies p policy
    are_policies n s a off some = (attains n s).is_open a off some

    -- the upper bound is above the lower one by no more than the penalty of what goes on and what rounding makes of each step
    bounds_apart : (n : ℕ) (s : S) → up p n s * p.den ^ n ≤ down p n s * p.den ^ n + (going p policy n s * p.penalty + steps p policy n s * 2)
    bounds_apart zero s =
        let one : p.den ^ 0 ≡ 1 = pow-zero p.den in
        rw one (goal_cases (p.goal s) (λ high. cond (p.goal s) 0 p.penalty * 1 ≤ 0 * 1 + (cond (p.goal s) 0 1 * p.penalty + 0 * 2)) 0
        (λ on. rw on (omega arith)) (λ off. rw off (omega arith)))
    bounds_apart (suc n) s =
        step_cases (p.goal s) (policy n s)
        (λ on taken. up p (suc n) s * p.den ^ suc n ≤ down p (suc n) s * p.den ^ suc n + (on * p.penalty + taken * 2))
        (λ a. expected (λ o. going p policy n o.next) (p.step a s))
        (λ a. p.den ^ suc n + expected (λ o. steps p policy n o.next) (p.step a s))
        (λ on.
        let none : up p (suc n) s * p.den ^ suc n ≡ 0 * p.den ^ suc n = ap (λ t. t * p.den ^ suc n) (upper_backup_at_goal p (up p n) s on) in
        omega (arith, none))
        (λ off none.
        let least : up p (suc n) s ≤ down p (suc n) s
        = omega (arith, upper_backup-le_penalty p (up p n) s, (attains n s).quits off none) in
        let scaled : up p (suc n) s * p.den ^ suc n ≤ down p (suc n) s * p.den ^ suc n = mul-le-mul_right (p.den ^ suc n) least in
        omega (arith, scaled))
        (λ a off some.
        let each
        = total-weighted_le (λ o. o.weight) (λ o. (o.cost + up p n o.next) * p.den ^ n)
        (λ o. (o.cost + down p n o.next) * p.den ^ n + (going p policy n o.next * p.penalty + steps p policy n o.next * 2)) (p.step a s)
        (λ o _. apart o.cost (up p n o.next) (down p n o.next) (p.den ^ n) (going p policy n o.next * p.penalty + steps p policy n o.next * 2)
        (bounds_apart n o.next)) in
        let highs = total-weighted_times (λ (o : Outcome S). o.weight) (λ o. o.cost + up p n o.next) (p.den ^ n) (p.step a s) in
        let lows = total-weighted_times (λ (o : Outcome S). o.weight) (λ o. o.cost + down p n o.next) (p.den ^ n) (p.step a s) in
        let on = total-weighted_times (λ (o : Outcome S). o.weight) (λ o. going p policy n o.next) p.penalty (p.step a s) in
        let taken = total-weighted_times (λ (o : Outcome S). o.weight) (λ o. steps p policy n o.next) 2 (p.step a s) in
        let split
        = total-weighted_add (λ (o : Outcome S). o.weight) (λ o. (o.cost + down p n o.next) * p.den ^ n)
        (λ o. going p policy n o.next * p.penalty + steps p policy n o.next * 2) (p.step a s) in
        let more
        = total-weighted_add (λ (o : Outcome S). o.weight) (λ o. going p policy n o.next * p.penalty) (λ o. steps p policy n o.next * 2)
        (p.step a s) in
        rw (pow-suc p.den n)
        (step_widens p.den (p.den ^ n) (up p (suc n) s) (down p (suc n) s) (action_value p (up p n) a s) (action_value p (down p n) a s)
        (expected (λ o. going p policy n o.next) (p.step a s) * p.penalty) (expected (λ o. steps p policy n o.next) (p.step a s))
        (upper_backup-le_action p positive (up p n) s a ((attains n s).is_open a off some)) ((attains n s).takes a off some)
        (omega (arith, each, highs, lows, on, taken, split, more))))

    module _ (whole : HasDenominator p) (c : ℕ) (costs : CostsAtLeast p (c + 1)) where
      -- each step costs c beyond what its floor loses
      steps_pay : (n : ℕ) (s : S) → steps p policy n s * c ≤ down p n s * p.den ^ n
      steps_pay zero s = omega arith
      steps_pay (suc n) s =
          step_cases (p.goal s) (policy n s) (λ taken _. taken * c ≤ down p (suc n) s * p.den ^ suc n)
          (λ a. p.den ^ suc n + expected (λ o. steps p policy n o.next) (p.step a s)) (λ a. 0)
          (λ on. omega arith) (λ off none. omega arith)
          (λ a off some.
          let each
          = total-weighted_le (λ o. o.weight) (λ o. (c + 1) * p.den ^ n + steps p policy n o.next * c)
          (λ o. (o.cost + down p n o.next) * p.den ^ n) (p.step a s)
          (λ o inside.
          let dear : (c + 1) * p.den ^ n ≤ o.cost * p.den ^ n
          = mul-le-mul_right (p.den ^ n) (costs a s ((attains n s).is_open a off some) o inside) in
          omega (arith, dear, steps_pay n o.next, add-mul o.cost (down p n o.next) (p.den ^ n))) in
          let split
          = total-weighted_add (λ (o : Outcome S). o.weight) (λ o. (c + 1) * p.den ^ n) (λ o. steps p policy n o.next * c) (p.step a s) in
          let step
          = total-weighted_constant (λ (o : Outcome S). o.weight) p.den ((c + 1) * p.den ^ n) (p.step a s)
          (whole a s ((attains n s).is_open a off some)) in
          let taken = total-weighted_times (λ (o : Outcome S). o.weight) (λ o. steps p policy n o.next) c (p.step a s) in
          let lows = total-weighted_times (λ (o : Outcome S). o.weight) (λ o. o.cost + down p n o.next) (p.den ^ n) (p.step a s) in
          rw (pow-suc p.den n)
          (step_pays c p.den (p.den ^ n) (expected (λ o. steps p policy n o.next) (p.step a s)) (down p (suc n) s) (action_value p (down p n) a s)
          (omega (arith, each, split, step, taken, lows)) ((attains n s).takes a off some)))

      steps_within : (n : ℕ) (s : S) → steps p policy n s * c ≤ p.penalty * p.den ^ n
      steps_within n s =
          let scaled : down p n s * p.den ^ n ≤ p.penalty * p.den ^ n = mul-le-mul_right (p.den ^ n) (down_le_penalty n s) in
          omega (arith, scaled, steps_pay n s)

      module _ (N : ℕ) (many : 2 * p.penalty ≤ N * c) where
        -- the chance of going on behind m times N steps is at most a half to the power of m, where giving up costs anything
        fades : (m : ℕ) (s : S) → going p policy (m * N) s * (p.penalty * 2 ^ m) ≤ p.penalty * p.den ^ (m * N)
        fades zero s =
            let none : 0 * N ≡ 0 = omega arith in
            let one : p.den ^ 0 ≡ 1 = pow-zero p.den in
            rw (none, one) (goal_cases (p.goal s) (λ chance. chance * (p.penalty * 1) ≤ p.penalty * 1) 1 (λ _. omega arith) (λ _. omega arith))
        fades (suc m) s =
            let same : suc m * N ≡ N + m * N = omega arith in
            rw (same, pow-suc 2 m)
            (halves c N p.penalty (2 ^ m) (p.den ^ (m * N)) (p.den ^ (N + m * N)) (going p policy (N + m * N) s)
            (going p (behind (m * N) policy) N s) (steps p policy (N + m * N) s) many
            (going_on p policy (m * N) (p.penalty * 2 ^ m) (p.penalty * p.den ^ (m * N)) (fades m) N s)
            (going_takes_steps p whole policy are_policies (m * N) N s) (steps_within (N + m * N) s))

        narrow_at : (m : ℕ) (s : S) → IsNarrow p.penalty c m (down p (m * N) s) (up p (m * N) s)
        narrow_at m s =
            let power : 2 ^ (m + 1) ≡ 2 ^ m * 2 = rw add-one (pow-suc 2 m) in
            rw power
            (narrow_of c (2 ^ m) p.penalty (p.den ^ (m * N)) (up p (m * N) s) (down p (m * N) s) (going p policy (m * N) s)
            (steps p policy (m * N) s) (one-le-pow (m * N) p.den positive) (bounds_apart (m * N) s) (fades m s) (steps_within (m * N) s))

narrower : (penalty c m low low' high high' : ℕ) → low ≤ low' → high' ≤ high → IsNarrow penalty c m low high → IsNarrow penalty c m low' high'
narrower penalty c m low low' high high' rises falls narrow =
    let lower : c * 2 ^ m * low ≤ c * 2 ^ m * low' = mul-le-mul_left (c * 2 ^ m) rises in
    let upper : c * 2 ^ m * high' ≤ c * 2 ^ m * high = mul-le-mul_left (c * 2 ^ m) falls in
    omega (arith, narrow, lower, upper)

module _ {S A : Type 0} (p : Process S A) where
  pub up_narrows_to_down : laws.UpNarrowsToDown p
  up_narrows_to_down positive whole c N costs many m n later s =
      narrower p.penalty c m (down p (m * N) s) (down p n s) (up p (m * N) s) (up p n s) (down_rises p (m * N) n s later)
      (up_falls p (m * N) n s later) (narrow_at p positive whole c costs N many m s)
