-- A test of pairs of a state and a cost.
use Rattle.std.proofs.Common.{◌≡◌, ℕ, Bool, true, false, ◌&&◌, refl, ap}
use Rattle.std.specs.Prelude.{nat_eq}
use Rattle.std.proofs.lemmas.Bool.{eqb-true, eq-eqb}
use Rattle.plain_list.specs.weighted.Chances.{IsExact}

abbrev pub same_pair : {T : Type 0} → (T → T → Bool) → T × ℕ → T × ℕ → Bool
same_pair same x y = same x.0 y.0 && nat_eq x.1 y.1

both_true : (b c : Bool) → (b && c) ≡ true → (b ≡ true) × (c ≡ true)
both_true true c e = (refl, e)
both_true false c e = absurd cc

true_both : (b c : Bool) → b ≡ true → c ≡ true → (b && c) ≡ true
true_both true c e f = f
true_both false c e f = e

pub same_pair_is_exact : {T : Type 0} (same : T → T → Bool) → IsExact same → IsExact (same_pair same)
same_pair_is_exact same exact x y = (
  λ e.
      let parts = both_true (same x.0 y.0) (nat_eq x.1 y.1) e in
      let first : x.0 ≡ y.0 = (exact x.0 y.0).0 parts.0 in
      let second : x.1 ≡ y.1 = eqb-true x.1 y.1 parts.1 in
      λ i. (first i, second i),
  λ e. true_both (same x.0 y.0) (nat_eq x.1 y.1) ((exact x.0 y.0).1 (ap (λ z. z.0) e)) (eq-eqb x.1 y.1 (ap (λ z. z.1) e)),
)
