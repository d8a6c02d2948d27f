-- What is known from below is carried.
use Rattle.std.proofs.Common.{◌≡◌, ℕ, ◌*◌, ◌^◌, max, sym, arith}
use Rattle.std.proofs.Math.Nat.{one-le-pow}
use Rattle.decision_process.specs.Least.{least}
use Rattle.decision_process.specs.under.Laws as laws
use Rattle.decision_process.proofs.lemmas.homomorphism.Ratios.{below_same}
use Rattle.decision_process.proofs.lemmas.homomorphism.Costs.{least_is_carried}
use Rattle.decision_process.proofs.lemmas.homomorphism.Starts.{floor-carried}

module _ {S T A B : Type 0} where
  pub under_is_carried : laws.UnderIsCarried S T A B
  under_is_carried p q m is s valid value =
      let quits = is.penalties in (
        λ here.
            let n : ℕ = here.1.0 in
            let same : least p n s * q.den ^ n ≡ least q n (m.state s) * p.den ^ n = least_is_carried p q m is n s valid in
            let quit = here.0 in (
              omega arith,
              (
                n,
                below_same value (least p n s) (p.den ^ n) (least q n (m.state s)) (q.den ^ n) (one-le-pow n p.den is.den_positive) same here.1.1,
              ),
            ),
        λ there.
            let n : ℕ = there.1.0 in
            let same : least p n s * q.den ^ n ≡ least q n (m.state s) * p.den ^ n = least_is_carried p q m is n s valid in
            let quit = there.0 in (
              omega arith,
              (
                n,
                below_same value (least q n (m.state s)) (q.den ^ n) (least p n s) (p.den ^ n) (one-le-pow n q.den is.den_positive_there) (sym same)
                    there.1.1,
              ),
            ),
      )

  pub under_mean_is_carried : laws.UnderMeanIsCarried S T A B
  under_mean_is_carried m starts den starts' den' are low value low' value' lows values =
      floor-carried m starts den starts' den' are (λ s. max (low s) (value s)) (λ t. max (low' t) (value' t))
      (λ s valid. (λ j. max (lows s valid j) (values s valid j)))
