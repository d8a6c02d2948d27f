-- What a homomorphism says of the outcomes of an action.
use Rattle.std.proofs.Common.{◌≡◌, ℕ, suc, ◌+◌, ◌*◌, ◌^◌, false, Some, sym, ap, ◌∙◌}
use Rattle.std.specs.Prelude.{Contains}
use Rattle.plain_list.proofs.lemmas.weighted.Totals.{total-same, total-weighted_times}
use Rattle.decision_process.specs.Process.{Process, Outcome, expected}
use Rattle.decision_process.specs.Backup.{action_value}
use Rattle.decision_process.specs.homomorphism.Homomorphism.{Mapping, IsValid, IsHomomorphism, AreReadingsOf}
use Rattle.decision_process.proofs.lemmas.homomorphism.Ratios.{times_power}

module _ {S T A B : Type 0} (p : Process S A) (q : Process T B) (m : Mapping S T A B) (is : IsHomomorphism p q m)
    (s : S) (valid : IsValid m s) (off : p.goal s ≡ false)
    (a : A) (b : B) (stands : m.action a ≡ Some b) (is_open : Contains (p.choices s) a) where
  -- the expectation of what is a function of the next state, as it stands, and the cost
  pub expected-carried : (f : Outcome S → ℕ) (v : T → ℕ → ℕ)
      → ((o : Outcome S) → IsValid m o.next → f o ≡ v (m.state o.next) o.cost)
      → expected f (p.step a s) * q.den ≡ expected (λ o. v o.next o.cost) (q.step b (m.state s)) * p.den
  expected-carried f v each =
      ap (λ n. n * q.den) (total-same (λ o. o.weight * f o) (λ o. o.weight * v (m.state o.next) o.cost) (p.step a s)
      (λ o inside. ap (λ n. o.weight * n) (each o ((is.like s valid off).stays a is_open o inside))))
      ∙ (is.like s valid off).outcomes a b stands is_open (λ x. v x.0 x.1)

  pub action_value-carried : (v : S → ℕ) (v' : T → ℕ) → AreReadingsOf m v v'
      → action_value p v a s * q.den ≡ action_value q v' b (m.state s) * p.den
  action_value-carried v v' reads =
      expected-carried (λ o. o.cost + v o.next) (λ t c. c + v' t) (λ o inside. ap (λ n. o.cost + n) (reads o.next inside))

  -- the same over the powers of the denominators
  pub powers-carried : (n : ℕ) (f : Outcome S → ℕ) (v : T → ℕ → ℕ)
      → ((o : Outcome S) → IsValid m o.next → f o * q.den ^ n ≡ v (m.state o.next) o.cost * p.den ^ n)
      → expected f (p.step a s) * q.den ^ suc n ≡ expected (λ o. v o.next o.cost) (q.step b (m.state s)) * p.den ^ suc n
  powers-carried n f v each =
      times_power (expected f (p.step a s)) q.den n
      ∙ ap (λ k. k * q.den) (sym (total-weighted_times (λ o. o.weight) f (q.den ^ n) (p.step a s)))
      ∙ expected-carried (λ o. f o * q.den ^ n) (λ t c. v t c * p.den ^ n) each
      ∙ ap (λ k. k * p.den) (total-weighted_times (λ o. o.weight) (λ o. v o.next o.cost) (p.den ^ n) (q.step b (m.state s)))
      ∙ sym (times_power (expected (λ o. v o.next o.cost) (q.step b (m.state s))) p.den n)
