-- Tests of limits, and refusals that are handed on.
use Rattle.std.proofs.Common.{◌≡◌, ℕ, ◌<◌, ◌≤◌, inl, inr, not, sym, ap, subst, ◌∙◌}
use Rattle.std.specs.Prelude.{nat_le, nat_lt, Result, Ok, Err}
use Rattle.std.proofs.lemmas.Bool.{cases_lt, leb-true, le-leb, lt-leb, le-ltb, lt-ltb}
use Rattle.plain_list.specs.Results.{◌>>=◌}
use Rattle.plain_list.proofs.Results.{test_passes}
use Rattle.ground_meaning.specs.declared.refusals.limits.LimitCode.{LimitCode}
use Rattle.ground_meaning.specs.declared.refusals.refusal.GroundRefusal.{GroundRefusal}
use Rattle.ground_meaning.specs.declared.refusals.refusal.GroundRefusal.TheVariants.{CostNotPositive, NoPenalty, Limit, Memory}
use Rattle.ground_meaning.specs.refusals.Codes.{most_of}
use Rattle.ground_meaning.specs.refusals.Limits.{checked, within}
use Rattle.grounder.specs.actions.Growing.{IsAnswerOf}

pub fails : (n : ℕ) (code : LimitCode) → most_of code < n → within n code ≡ Err code
fails n code above = ap (λ b. checked b code) (lt-leb n (most_of code) above)

pub passed : (n : ℕ) (code : LimitCode) → within n code ≡ Ok tt → n ≤ most_of code
passed n code is = leb-true n (most_of code) (test_passes (nat_le n (most_of code)) tt code tt is).0

-- a number is within a limit where the limit is not below it
pub not_above : (n most : ℕ) → nat_le n most ≡ not (nat_lt most n)
not_above n most = elim (cases_lt most n) [
  | inl above ↦ lt-leb n most above ∙ sym (ap not (lt-ltb most n above))
  | inr below ↦ le-leb n most below ∙ sym (ap not (le-ltb most n below))
]

pub refused_then : {X Y : Type 0} (e : GroundRefusal) (r : Result X LimitCode) (f : X → Result Y LimitCode)
    → IsAnswerOf {X = X} (Err e) r → IsAnswerOf {X = Y} (Err e) (r >>= f)
refused_then (Limit code) r f is = ap (λ z. z >>= f) is
refused_then Memory r f is = tt
refused_then (CostNotPositive line) r f is = absurd is
refused_then (NoPenalty line) r f is = absurd is

pub refused_same : {X : Type 0} (e : GroundRefusal) (a b : Result X LimitCode) → a ≡ b → IsAnswerOf {X = X} (Err e) a → IsAnswerOf {X = X} (Err e) b
refused_same {X} e a b is = subst (IsAnswerOf {X = X} (Err e)) is

pub handed_on : {X : Type 0} (r : Result X GroundRefusal) (e same : GroundRefusal) (answer : Result X LimitCode) → r ≡ Err same → same ≡ e
    → IsAnswerOf {X = X} (Err e) answer → IsAnswerOf r answer
handed_on r e same answer is at known = subst (λ z. IsAnswerOf z answer) (sym (is ∙ ap Err at)) known
