-- What alike lists say of functions of their items, and that an item of the one has its like in the other.
use Rattle.std.proofs.Common.{◌≡◌, ℕ, zero, suc, ◌*◌, ◌<◌, ◌≤◌, max, Bool, true, false, cond, List, [], ◌∷◌, refl, ap, subst, inl, inr, arith}
use Rattle.std.specs.Prelude.{Contains}
use Rattle.std.proofs.lemmas.Bool.{cases_lt}
use Rattle.std.proofs.Math.Nat.{mul-le-mul_right, mul-pos}
use Rattle.plain_list.proofs.Members.{Contains-first, Contains-later, Contains-cons_cases, Contains-nil}
use Rattle.plain_list.specs.weighted.Mean.{total, mean}
use Rattle.plain_list.specs.weighted.Chances.{IsExact}
use Rattle.plain_list.specs.weighted.Laws.{AlikeIsBelow, AlikeHasMember}
use Rattle.plain_list.proofs.lemmas.weighted.Totals.{total-weighted_le}

-- ---- a function that is at most another

module _ {C X : Type 0} (key : C → X) (same : X → X → Bool) (exact : IsExact same) (f : C → ℕ) where
  -- the greatest value at an item with this key, 0 where there is none
  highest : List C → X → ℕ
  highest [] x = 0
  highest (c ∷ l) x = max (cond (same (key c) x) (f c) 0) (highest l x)

  at_itself : (c : C) → cond (same (key c) (key c)) (f c) 0 ≡ f c
  at_itself c = ap (λ b. cond b (f c) 0) ((exact (key c) (key c)).1 refl)

  le-highest : (l : List C) (c : C) → Contains l c → f c ≤ highest l (key c)
  unfolding highest
  le-highest [] c inside = absurd (Contains-nil c inside)
  le-highest (d ∷ l) c inside = elim (Contains-cons_cases d l c inside) [
    | inl here ↦ subst (λ x. f x ≤ highest (d ∷ l) (key x)) here (omega (arith, at_itself d))
    | inr later ↦ omega (arith, le-highest l c later)
  ]

  cond_le : (b : Bool) (value bound : ℕ) → (b ≡ true → value ≤ bound) → cond b value 0 ≤ bound
  cond_le true value bound within = within refl
  cond_le false value bound within = omega arith

  highest-le : (l : List C) (x : X) (bound : ℕ) → ((c : C) → Contains l c → key c ≡ x → f c ≤ bound) → highest l x ≤ bound
  unfolding highest
  highest-le [] x bound each = omega arith
  highest-le (c ∷ l) x bound each =
      let first : cond (same (key c) x) (f c) 0 ≤ bound
      = cond_le (same (key c) x) (f c) bound (λ e. each c (Contains-first c l) ((exact (key c) x).0 e)) in
      omega (arith, first, highest-le l x bound (λ d inside e. each d (Contains-later c l d inside) e))

pub alike_is_below : {C D X : Type 0} → AlikeIsBelow C D X
alike_is_below w key w' key' same exact l den l' den' alike f g each =
    let v = highest key same exact f l in
    let above : total (λ c. w c * f c) l ≤ mean w key v l
    = total-weighted_le w f (λ c. v (key c)) l (λ c inside. le-highest key same exact f l c inside) in
    let below : mean w' key' v l' ≤ total (λ d. w' d * g d) l'
    = total-weighted_le w' (λ d. v (key' d)) g l'
    (λ d inside. highest-le key same exact f l (key' d) (g d) (λ c within e. each c d within inside e)) in
    let first : total (λ c. w c * f c) l * den' ≤ mean w key v l * den' = mul-le-mul_right den' above in
    let last : mean w' key' v l' * den ≤ total (λ d. w' d * g d) l' * den = mul-le-mul_right den below in
    omega (arith, first, last, alike v)

-- ---- an item and its like

positive_member : {C : Type 0} (f : C → ℕ) (l : List C) → 0 < total f l → (c : C) × Contains l c × (0 < f c)
positive_member f [] positive = absurd (omega arith)
positive_member f (c ∷ l) positive = elim (cases_lt 0 (f c)) [
  | inl here ↦ (c, Contains-first c l, here)
  | inr none ↦
      let later : (d : _) × Contains l d × (0 < f d) = positive_member f l (omega arith) in
      (later.0, Contains-later c l later.0 later.1, later.2)
]

positive_total : {C : Type 0} (f : C → ℕ) (l : List C) (c : C) → Contains l c → 0 < f c → 0 < total f l
positive_total f [] c inside positive = absurd (Contains-nil c inside)
positive_total f (d ∷ l) c inside positive = elim (Contains-cons_cases d l c inside) [
  | inl same ↦ let here : f d ≡ f c = ap f same in omega (arith, positive)
  | inr later ↦ omega (arith, positive_total f l c later positive)
]

positive_factors : (a b : ℕ) → 0 < a * b → (0 < a) × (0 < b)
positive_factors zero b positive = absurd (omega arith)
positive_factors (suc a) zero positive = absurd (omega arith)
positive_factors (suc a) (suc b) positive = (omega arith, omega arith)

test_true : (b : Bool) → 0 < cond b 1 0 → b ≡ true
test_true true positive = refl
test_true false positive = absurd (omega arith)

pub alike_has_member : {C D X : Type 0} → AlikeHasMember C D X
alike_has_member {C} {D} {X} w key w' key' same exact l den l' den' alike positive c inside weighs =
    let v : X → ℕ = λ x. cond (same (key c) x) 1 0 in
    let here : v (key c) ≡ 1 = ap (λ b. cond b 1 0) ((exact (key c) (key c)).1 refl) in
    let first : 0 < mean w key v l
    = positive_total (λ d. w d * v (key d)) l c inside (mul-pos weighs (omega (arith, here))) in
    let both : 0 < mean w' key' v l' * den = subst (λ n. 0 < n) (alike v) (mul-pos first positive) in
    let found : (d : D) × Contains l' d × (0 < w' d * v (key' d))
    = positive_member (λ d. w' d * v (key' d)) l' (positive_factors (mean w' key' v l') den both).0 in
    let parts = positive_factors (w' found.0) (v (key' found.0)) found.2 in
    (found.0, found.1, (exact (key c) (key' found.0)).0 (test_true (same (key c) (key' found.0)) parts.1), parts.0)
