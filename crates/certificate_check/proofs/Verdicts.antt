-- What a verdict says of balance.
use Rattle.std.proofs.Common.{◌≡◌, ℕ, ◌+◌, ◌≤◌, Bool, Option, Some, None, refl, sym, subst, ◌∙◌, inl, inr, arith, length}
use Rattle.std.specs.Prelude.{◌↔◌, IsTrue}
use Rattle.std.specs.List.{slice_get}
use Rattle.std.proofs.lemmas.Bool.{cases_lt}
use Rattle.std.proofs.lemmas.Option.{none-some, slice_get_past}
use Rattle.certificate.specs.Rows.{Row}
use Rattle.certificate.specs.Content.{Content, IsCertificate}
use Rattle.ground_model.specs.Packed.{State}
use Rattle.decision_process.specs.Balanced.{IsInterval}
use Rattle.ground_model.specs.Ground.{Ground}
use Rattle.ground_model.specs.Steps.{ground_starts}
use Rattle.certificate_check.specs.declared.verdict.Verdict.{Verdict}
use Rattle.certificate_check.specs.declared.verdict.Verdict.TheVariants.{Accepted, Penalty, UnknownAtom, Act, Lower, Upper, Ends}
use Rattle.certificate_check.specs.Claims.{low_in, high_in, IsBalancedFor}
use Rattle.certificate_check.specs.GroundRows.{Claimed}
use Rattle.certificate_check.specs.Verdicts.{IsSound, AreSound, AreSoundBefore, IsRowVerdict, AreRowsVerdict, IsFirstFailure, IsVerdictBy, IsVerdict, IsIntervalOf}
use Rattle.certificate_check.proofs.Sound.{sound_is_balanced, balanced_is_sound}

pub verdict_tells : (g : Ground) (c : Content) → IsCertificate c → (v : Verdict) → IsVerdict g c v
    → (v ≡ Accepted) ↔ IsBalancedFor g c
verdict_tells g c is Accepted told = ((λ _. sound_is_balanced g c is told.0 told.1 told.2), (λ _. refl))
verdict_tells g c is Penalty told = ((λ e. absurd cc), (λ for. absurd (told for.balanced.penalty)))
verdict_tells g c is (UnknownAtom j) told = (
  (λ e. absurd cc),
  (λ for. absurd (told.1.fails.1 (balanced_is_sound g c is for told.1.place told.1.row told.1.at).known)),
)
verdict_tells g c is (Act j) told = (
  (λ e. absurd cc),
  (λ for. absurd (told.1.fails.2 (balanced_is_sound g c is for told.1.place told.1.row told.1.at).act)),
)
verdict_tells g c is (Lower j) told = (
  (λ e. absurd cc),
  (λ for. absurd (told.1.fails.3 (balanced_is_sound g c is for told.1.place told.1.row told.1.at).lower)),
)
verdict_tells g c is (Upper j) told = (
  (λ e. absurd cc),
  (λ for. absurd (told.1.fails.4 (balanced_is_sound g c is for told.1.place told.1.row told.1.at).upper)),
)
verdict_tells g c is Ends told = ((λ e. absurd cc), (λ for. absurd (told.2 for.balanced.interval)))

module _ (g : Ground) (c : Content) (low high : State → ℕ) where
  pub first_verdict : c.penalty ≡ g.penalty → (v : Verdict) → IsFirstFailure g c low high v → IsVerdictBy g c low high v
  first_verdict penalty Accepted first = absurd first.fails
  first_verdict penalty Penalty first = absurd first.fails
  first_verdict penalty (UnknownAtom j) first = (penalty, first)
  first_verdict penalty (Act j) first = (penalty, first)
  first_verdict penalty (Lower j) first = (penalty, first)
  first_verdict penalty (Upper j) first = (penalty, first)
  first_verdict penalty Ends first = absurd first.fails

  -- ---- the rows so far

  pub sound_more : (k : ℕ) → AreSoundBefore g c low high k
      → ((r : Row) → slice_get c.rows k ≡ Some r → IsSound g c low high r) → AreSoundBefore g c low high (k + 1)
  sound_more k before here i r within at = elim (cases_lt i k) [
    | inl earlier ↦ before i r earlier at
    | inr later ↦ here r (subst (λ j. slice_get c.rows j ≡ Some r) (let same : i ≡ k = omega (arith, within, later) in same) at)
  ]

  pub sound_all : (k : ℕ) → length c.rows ≤ k → AreSoundBefore g c low high k → AreSound g c low high
  sound_all k past before i r at = elim (cases_lt i k) [
    | inl earlier ↦ before i r earlier at
    | inr later ↦ absurd (none-some r (sym (slice_get_past c.rows i (omega (arith, past, later))) ∙ at))
  ]

  pub sound_by : (r : Row) (k : ℕ) (o : Option Verdict) → o ≡ None → IsRowVerdict g c low high r (k + 1) o → IsSound g c low high r
  sound_by r k o none told = subst (IsRowVerdict g c low high r (k + 1)) none told

pub none_of : {X : Type 0} (o : Option X) → ((v : X) → o ≡ Some v → ⊥) → o ≡ None
none_of None never = refl
none_of (Some v) never = absurd (never v refl)

-- ---- by the readings of the checker, which name the problem and the certificate as they are kept

module _ (x t : Claimed) (g : Ground) (q : Content) (same : t ≡ x) (problem : x.problem ≡ g) (certificate : x.certificate ≡ q) where
  claimed : x ≡ record { problem = g; certificate = q }
  claimed = λ j. record { problem = problem j; certificate = certificate j }

  abbrev TellsOf : Option Verdict → Claimed → Type 0
  TellsOf o y = AreRowsVerdict y.problem y.certificate (low_in y.problem y.certificate) (high_in y.problem y.certificate) o

  pub told_rows : (o : Option Verdict) → TellsOf o t → AreRowsVerdict g q (low_in g q) (high_in g q) o
  told_rows o told = subst (TellsOf o) (same ∙ claimed) told

  pub told_sound : (o : Option Verdict) → o ≡ None → TellsOf o t → AreSound g q (low_in g q) (high_in g q)
  told_sound o none told = subst (AreRowsVerdict g q (low_in g q) (high_in g q)) none (told_rows o told)

  pub told_interval : (lower upper : ℕ) (r : Bool) → lower ≡ q.lower → upper ≡ q.upper
      → (IsTrue r ↔ IsInterval (low_in t.problem t.certificate) (high_in t.problem t.certificate) (ground_starts g) g.start_den lower upper)
      → IsTrue r ↔ IsIntervalOf g q (low_in g q) (high_in g q)
  told_interval lower upper r lower_is upper_is told =
      subst (λ n. IsTrue r ↔ IsInterval (low_in g q) (high_in g q) (ground_starts g) g.start_den n q.upper) lower_is
      (subst (λ n. IsTrue r ↔ IsInterval (low_in g q) (high_in g q) (ground_starts g) g.start_den lower n) upper_is
      (subst (λ (y : Claimed). IsTrue r ↔ IsInterval (low_in y.problem y.certificate) (high_in y.problem y.certificate) (ground_starts g) g.start_den lower upper)
      (same ∙ claimed) told))
