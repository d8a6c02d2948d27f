-- The narrower of two balanced readings is balanced.
use Rattle.std.proofs.Common.{◌≡◌, ℕ, ◌≤◌, inl, inr, cond, Option, List, sym, subst, arith}
use Rattle.std.specs.Prelude.{max, min, nat_le}
use Rattle.std.proofs.Math.Nat.{le-max_left, le-max_right}
use Rattle.std.proofs.lemmas.Bool.{cases_lt}
use Rattle.std.proofs.lemmas.Bool.Decides.{leb_tells}
use Rattle.plain_list.proofs.lemmas.weighted.Totals.{total-weighted_le}
use Rattle.decision_process.specs.Process.{Process, Start, at_starts}
use Rattle.decision_process.specs.Following.{IsLowerFrom, IsUpperFrom}
use Rattle.decision_process.proofs.Backups.{lower_still_follows, upper_still_follows}
use Rattle.decision_process.proofs.Rounding.{floor_rises, ceiling_rises}
use Rattle.cert_merge.specs.Narrower.{greater, smaller}
use Rattle.cert_merge.specs.Laws.{NarrowerIsBalanced, NarrowerIntervalWithin}

pub max_is_right : (a b : ℕ) → a ≤ b → max a b ≡ b
max_is_right a b le = omega arith

pub max_is_left : (a b : ℕ) → b ≤ a → max a b ≡ a
max_is_left a b le = omega arith

pub min_is_left : (a b : ℕ) → a ≤ b → min a b ≡ a
min_is_left a b le = omega arith

pub min_is_right : (a b : ℕ) → b ≤ a → min a b ≡ b
min_is_right a b le = omega arith

pub min-le_left : (a b : ℕ) → min a b ≤ a
min-le_left a b = omega arith

pub min-le_right : (a b : ℕ) → min a b ≤ b
min-le_right a b = omega arith

-- the greater of two is one of them
either_max : (P : ℕ → Type 0) (a b : ℕ) → P a → P b → P (max a b)
either_max P a b p q = elim (cases_lt a b) [
  | inl less ↦ subst P (sym (max_is_right a b (omega (arith, less)))) q
  | inr more ↦ subst P (sym (max_is_left a b (omega (arith, more)))) p
]

-- the smaller of two is the one whose act is taken
either_min : {A : Type 0} (P : Option A → ℕ → Type 0) (a b : ℕ) (x y : Option A) → P x a → P y b → P (cond (nat_le a b) x y) (min a b)
either_min P a b x y p q = elim (leb_tells a b) [
  | inl on ↦
      subst (λ t. P (cond t x y) (min a b)) (sym on.0) (subst (P x) (sym (min_is_left a b on.1)) p)
  | inr off ↦
      subst (λ t. P (cond t x y) (min a b)) (sym off.0) (subst (P y) (sym (min_is_right a b (omega (arith, off.1)))) q)
]

module _ {S A : Type 0} (p : Process S A) where
  pub narrower_is_balanced : NarrowerIsBalanced p
  narrower_is_balanced low high low' high' act act' one other s =
      let lows : S → ℕ = greater low low' in
      let highs : S → ℕ = smaller high high' in
      let first_low : IsLowerFrom p lows s (low s)
      = lower_still_follows p low lows s (low s) (one s).low_follows (λ off a inside o there. le-max_left (low o.next) (low' o.next)) in
      let second_low : IsLowerFrom p lows s (low' s)
      = lower_still_follows p low' lows s (low' s) (other s).low_follows (λ off a inside o there. le-max_right (low o.next) (low' o.next)) in
      let first_high : IsUpperFrom p highs s (act s) (high s)
      = upper_still_follows p high highs s (act s) (high s) (one s).high_follows
      (λ off a some o there. min-le_left (high o.next) (high' o.next)) in
      let second_high : IsUpperFrom p highs s (act' s) (high' s)
      = upper_still_follows p high' highs s (act' s) (high' s) (other s).high_follows
      (λ off a some o there. min-le_right (high o.next) (high' o.next)) in
      record {
        low_follows = either_max (λ v. IsLowerFrom p lows s v) (low s) (low' s) first_low second_low;
        high_at_goal = λ on. (let a = (one s).high_at_goal on in let b = min-le_left (high s) (high' s) in omega arith);
        high_follows = either_min (λ x v. IsUpperFrom p highs s x v) (high s) (high' s) (act s) (act' s) first_high second_high;
      }

module _ {S : Type 0} where
  above_starts : (f f' : S → ℕ) (starts : List (Start S)) → ((s : S) → f s ≤ f' s) → at_starts f starts ≤ at_starts f' starts
  above_starts f f' starts each =
      total-weighted_le (λ (start : Start S). start.weight) (λ (start : Start S). f start.state) (λ (start : Start S). f' start.state) starts
      (λ start _. each start.state)

  pub narrower_interval_within : NarrowerIntervalWithin S
  narrower_interval_within low high low' high' starts start_den positive lower upper lower' upper' lower'' upper'' one other narrow = (
    record {
      above = (
          let a = one.floor_of_low in let b = narrow.floor_of_low in
          let c = floor_rises (at_starts low starts) (at_starts (greater low low') starts) start_den
          (above_starts low (greater low low') starts (λ s. le-max_left (low s) (low' s))) in omega arith
          );
      below = (
          let a = one.ceiling_of_high in let b = narrow.ceiling_of_high in
          let c = ceiling_rises (at_starts (smaller high high') starts) (at_starts high starts) start_den
          (above_starts (smaller high high') high starts (λ s. min-le_left (high s) (high' s))) in omega arith
          );
    },
    record {
      above = (
          let a = other.floor_of_low in let b = narrow.floor_of_low in
          let c = floor_rises (at_starts low' starts) (at_starts (greater low low') starts) start_den
          (above_starts low' (greater low low') starts (λ s. le-max_right (low s) (low' s))) in omega arith
          );
      below = (
          let a = other.ceiling_of_high in let b = narrow.ceiling_of_high in
          let c = ceiling_rises (at_starts (smaller high high') starts) (at_starts high' starts) start_den
          (above_starts (smaller high high') high' starts (λ s. min-le_right (high s) (high' s))) in omega arith
          );
    },
  )
