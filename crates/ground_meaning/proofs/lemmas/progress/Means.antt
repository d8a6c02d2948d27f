-- The interval of weighted starts is as narrow as the bounds of each state, but for what rounding its two means adds.
use Rattle.std.proofs.Common.{◌≡◌, ℕ, ◌+◌, ◌*◌, ◌^◌, ◌<◌, ◌≤◌, arith}
use Rattle.std.proofs.Math.Nat.{mul_comm, mul-le-mul_left, le_of_mul-le-mul_right}
use Rattle.plain_list.proofs.lemmas.weighted.Totals.{total-weighted_times, total-weighted_le}
use Rattle.decision_process.specs.Process.{Process, Start, at_starts}
use Rattle.decision_process.specs.Backup.{floor, ceiling}
use Rattle.decision_process.specs.Rounded.{down, up}
use Rattle.ground_meaning.specs.progress.Width.{IsNarrow}
use Rattle.ground_meaning.specs.progress.Laws as laws
use Rattle.ground_meaning.proofs.lemmas.progress.Sums.{total-weighted_add, total-weighted_constant}
use Rattle.ground_meaning.proofs.lemmas.progress.Attained.{floor_loses_less, ceiling_gains_less}
use Rattle.ground_meaning.proofs.lemmas.progress.Progress.{up_narrows_to_down}

close : (t most above below den up down : ℕ) → 0 < den → above * t ≤ below * t + den * most
    → t * (up * den) ≤ t * (above + den) → t * below ≤ t * (down * den + den) → t * up ≤ t * (down + 2) + most
close t most above below den up down positive within gains loses =
    let left : t * up * den ≡ t * (up * den) = grind arith in
    let raised : t * (above + den) ≡ above * t + t * den = grind arith in
    let lowest : t * below ≡ below * t = grind arith in
    let right : (t * (down + 2) + most) * den ≡ t * (down * den + den) + t * den + den * most = grind arith in
    let scaled : t * up * den ≤ (t * (down + 2) + most) * den = omega (arith, within, gains, loses, left, raised, lowest, right) in
    le_of_mul-le-mul_right scaled positive

-- sums that are close have close means
means_close : (t most above below den : ℕ) → 0 < den → above * t ≤ below * t + den * most
    → t * ceiling above den ≤ t * (floor below den + 2) + most
means_close t most above below den positive within =
    let gains : t * (ceiling above den * den) ≤ t * (above + den) = mul-le-mul_left t (ceiling_gains_less above den positive) in
    let loses : t * below ≤ t * (floor below den * den + den) = mul-le-mul_left t (floor_loses_less below den positive) in
    close t most above below den (ceiling above den) (floor below den) positive within gains loses

turned : (penalty c m low high : ℕ) → IsNarrow penalty c m low high
    → high * (c * 2 ^ m) ≤ low * (c * 2 ^ m) + (c * penalty + 2 ^ (m + 1) * penalty)
turned penalty c m low high narrow =
    omega (arith, narrow, mul_comm high (c * 2 ^ m), mul_comm low (c * 2 ^ m))

module _ {S A : Type 0} (p : Process S A) where
  pub interval_narrows : laws.IntervalNarrows p
  interval_narrows positive whole c N costs many m n later starts den positive_den sums =
      let each
      = total-weighted_le (λ (start : Start S). start.weight) (λ start. up p n start.state * (c * 2 ^ m))
      (λ start. down p n start.state * (c * 2 ^ m) + (c * p.penalty + 2 ^ (m + 1) * p.penalty)) starts
      (λ start _. turned p.penalty c m (down p n start.state) (up p n start.state)
      (up_narrows_to_down p positive whole c N costs many m n later start.state)) in
      let highs = total-weighted_times (λ (start : Start S). start.weight) (λ start. up p n start.state) (c * 2 ^ m) starts in
      let lows = total-weighted_times (λ (start : Start S). start.weight) (λ start. down p n start.state) (c * 2 ^ m) starts in
      let split
      = total-weighted_add (λ (start : Start S). start.weight) (λ start. down p n start.state * (c * 2 ^ m))
      (λ start. c * p.penalty + 2 ^ (m + 1) * p.penalty) starts in
      let constant
      = total-weighted_constant (λ (start : Start S). start.weight) den (c * p.penalty + 2 ^ (m + 1) * p.penalty) starts sums in
      let close
      = means_close (c * 2 ^ m) (c * p.penalty + 2 ^ (m + 1) * p.penalty) (at_starts (up p n) starts) (at_starts (down p n) starts) den
      positive_den (omega (arith, each, highs, lows, split, constant)) in
      omega (arith, close)
