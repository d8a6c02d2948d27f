-- Places of lists, and what views and buckets add up to.
use Rattle.std.proofs.Common.{◌≡◌, ◌≢◌, ◌⊎◌, ℕ, zero, suc, ◌+◌, ◌-◌, ◌<◌, ◌≤◌, cond, nat_eq, List, [], ◌∷◌, ◌++◌, length, map, refl, sym, ap, ◌∙◌, inl, inr, ⊎_elim, arith}
use Rattle.std.specs.Prelude.{slice_set}
use Rattle.std.specs.List.{range_with_len}
use Rattle.std.proofs.lemmas.Bool.{eq-eqb, ne_eqb}
use mathlib.Core.Option.{some, some-injective, some-ne-none}
use mathlib.Core.Logic.{dite}
use native.Mathlib.Decide.{ℕ_discrete, dec_le}
use lib.ListN.{get_elem?}
use Rattle.word_table.specs.declared.view.View.{View}
use Rattle.word_table.specs.rule.Words.{held_in}
use Rattle.word_table.specs.rule.Rule.{total, holders, one_if_some, taken_below}

pub inside : {A : Type 0} (l : List A) (i : ℕ) (a : A) → get_elem? l i ≡ some a → i < length l
inside [] i a e = absurd (some-ne-none a (sym e))
inside (x ∷ xs) zero a e = omega arith
inside (x ∷ xs) (suc i) a e = let h = inside xs i a e in omega arith

pub map_range_same : {X : Type 0} (f h : ℕ → X) (a n : ℕ) → ((i : ℕ) → a ≤ i → i < a + n → f i ≡ h i)
    → map f (range_with_len a n) ≡ map h (range_with_len a n)
map_range_same f h a zero same = refl
map_range_same f h a (suc n) same =
    let rest = map_range_same f h (a + 1) n (λ i low high. same i (omega arith) (omega arith)) in
    let first : f a ≡ h a = same a (omega arith) (omega arith) in
    λ t. first t ∷ rest t

-- ---- rights and spares

pub total_set : (vs : List View) (k : ℕ) (v w : View) → get_elem? vs k ≡ some v → total (slice_set vs k w) + v.rights ≡ total vs + w.rights
total_set [] k v w e = absurd (some-ne-none v (sym e))
total_set (x ∷ xs) zero v w e = let s : x.rights ≡ v.rights = ap (λ (u : View). u.rights) (some-injective x v e) in omega arith
total_set (x ∷ xs) (suc k) v w e = let r = total_set xs k v w e in omega arith

pub holders_set : (vs : List View) (k : ℕ) (v w : View) → get_elem? vs k ≡ some v
    → holders (slice_set vs k w) + one_if_some v.spare ≡ holders vs + one_if_some w.spare
holders_set [] k v w e = absurd (some-ne-none v (sym e))
holders_set (x ∷ xs) zero v w e = let s : one_if_some x.spare ≡ one_if_some v.spare = ap (λ (u : View). one_if_some u.spare) (some-injective x v e) in omega arith
holders_set (x ∷ xs) (suc k) v w e = let r = holders_set xs k v w e in omega arith

pub total_snoc : (vs : List View) (w : View) → total (vs ++ w ∷ []) ≡ total vs + w.rights
total_snoc [] w = omega arith
total_snoc (x ∷ xs) w = let r = total_snoc xs w in omega arith

pub holders_snoc : (vs : List View) (w : View) → holders (vs ++ w ∷ []) ≡ holders vs + one_if_some w.spare
holders_snoc [] w = omega arith
holders_snoc (x ∷ xs) w = let r = holders_snoc xs w in omega arith

-- ---- buckets

abbrev pub taken : ℕ → ℕ
taken x = cond (nat_eq x 0) 0 1

pub taken_one : (x : ℕ) → x ≢ 0 → taken x ≡ 1
taken_one x not = ap (λ b. cond b 0 1) (ne_eqb x 0 not)

pub taken_same : (ws ws' : List ℕ) (n : ℕ) → ((b : ℕ) → b < n → held_in ws' b ≡ held_in ws b) → taken_below ws' n ≡ taken_below ws n
taken_same ws ws' zero same = refl
taken_same ws ws' (suc n) same =
    let rest = taken_same ws ws' n (λ b below. same b (omega arith)) in
    let here : taken (held_in ws' n) ≡ taken (held_in ws n) = ap taken (same n (omega arith)) in
    omega arith

pub taken_more : (ws ws' : List ℕ) (n b : ℕ) → b < n → held_in ws b ≡ 0 → held_in ws' b ≢ 0
    → ((c : ℕ) → c ≢ b → held_in ws' c ≡ held_in ws c) → taken_below ws' n ≡ taken_below ws n + 1
taken_more ws ws' zero b below empty filled others = absurd (omega arith)
taken_more ws ws' (suc n) b below empty filled others = dite (ℕ_discrete n b)
    (λ here.
    let rest = taken_same ws ws' n (λ c less. others c (λ z. omega arith)) in
    let now : taken (held_in ws' n) ≡ 1 = ap (λ i. taken (held_in ws' i)) here ∙ taken_one (held_in ws' b) filled in
    let before : taken (held_in ws n) ≡ 0 = ap (λ i. taken (held_in ws i)) here ∙ ap taken empty in
    omega arith)
    (λ else.
    let rest = taken_more ws ws' n b (omega arith) empty filled others in
    let same : taken (held_in ws' n) ≡ taken (held_in ws n) = ap taken (others n else) in
    omega arith)

-- ---- pigeonholes

-- whether f is x somewhere below n
holder : (f : ℕ → ℕ) (x n : ℕ) → ((k : ℕ) × (k < n) × (f k ≡ x)) ⊎ ((k : ℕ) → k < n → f k ≢ x)
holder f x zero = inr (λ k below. absurd (omega arith))
holder f x (suc n) = dite (ℕ_discrete (f n) x)
    (λ same. inl (n, omega arith, same))
    (λ other. ⊎_elim
    (λ t. let below = t.1 in inl (t.0, omega arith, t.2))
    (λ none. inr (λ k below. dite (ℕ_discrete k n)
    (λ last z. other (ap f (sym last) ∙ z))
    (λ before. none k (omega arith))))
    (holder f x n))

abbrev skip : ℕ → ℕ → ℕ
skip k j = cond (nat_eq (k - j) 0) (j + 1) j

skip_is : (k j : ℕ) → ((j < k) × (skip k j ≡ j)) ⊎ ((k ≤ j) × (skip k j ≡ j + 1))
skip_is k j = dite (dec_le k j)
    (λ past. inr (past, ap (λ b. cond b (j + 1) j) (eq-eqb (k - j) 0 (omega arith))))
    (λ before. inl (omega arith, ap (λ b. cond b (j + 1) j) (ne_eqb (k - j) 0 (λ z. omega arith))))

-- n numbers below m, no two of them equal
pub pigeons : (m n : ℕ) (f : ℕ → ℕ) → ((k : ℕ) → k < n → f k < m) → ((j k : ℕ) → j < n → k < n → f j ≡ f k → j ≡ k) → n ≤ m
pigeons zero zero f bound apart = omega arith
pigeons zero (suc n) f bound apart = let low = bound 0 (omega arith) in absurd (omega arith)
pigeons (suc m) zero f bound apart = omega arith
pigeons (suc m) (suc n) f bound apart = ⊎_elim
    (λ t.
    let k = t.0 in let below : k < suc n = t.1 in
    let step : (j : ℕ) → j < n → (skip k j < suc n) × (skip k j ≢ k) = λ j small. ⊎_elim
    (λ u. let is = u.1 in let first = u.0 in (omega arith, λ z. omega arith))
    (λ u. let is = u.1 in let first = u.0 in (omega arith, λ z. omega arith)) (skip_is k j) in
    let r = pigeons m n (λ j. f (skip k j))
    (λ j small.
    let low = bound (skip k j) ((step j small).0) in
    let other : f (skip k j) ≢ m = λ z. (step j small).1 (apart (skip k j) k ((step j small).0) below (z ∙ sym t.2)) in
    omega arith)
    (λ i j small small' e.
    let same : skip k i ≡ skip k j = apart (skip k i) (skip k j) ((step i small).0) ((step j small').0) e in
    ⊎_elim
    (λ u. ⊎_elim (λ w. let a = u.1 in let b = w.1 in omega arith) (λ w. let a = u.1 in let b = w.1 in let x = u.0 in let y = w.0 in absurd (omega arith)) (skip_is k j))
    (λ u. ⊎_elim (λ w. let a = u.1 in let b = w.1 in let x = u.0 in let y = w.0 in absurd (omega arith)) (λ w. let a = u.1 in let b = w.1 in omega arith) (skip_is k j))
    (skip_is k i))
    in omega arith)
    (λ none.
    let r = pigeons m (suc n) f (λ k small. let low = bound k small in let other = none k small in omega arith) apart in omega arith)
    (holder f m (suc n))
