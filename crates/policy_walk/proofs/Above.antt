-- What stands first above a number, by running sums of weights.
use Rattle.std.proofs.Common.{◌≡◌, ℕ, ◌-◌, ◌<◌, ◌≤◌, Bool, true, false, cond, nat_lt, List, [], ◌∷◌, length, drop, Option, Some, refl, ap, sym, subst, ◌∙◌, arith}
use Rattle.std.specs.Prelude.{Contains}
use Rattle.std.specs.List.{slice_get}
use Rattle.std.proofs.lemmas.Bool.{lt-ltb, le-ltb, ltb-false}
use Rattle.plain_list.proofs.Members.{Contains-first, Contains-later}
use Rattle.plain_list.specs.weighted.Mean.{total}
use Rattle.policy_walk.specs.Walks.{first_above}

module _ {X : Type 0} (w : X → ℕ) where
  the_same : {y x : X} → Some y ≡ Some x → y ≡ x
  the_same e = cc

  -- ---- one item after another

  pub some_left : (xs : List X) (r : ℕ) → r < total w xs → 0 < length xs
  some_left [] r below = absurd (omega (arith, below))
  some_left (x ∷ xs) r below = omega arith

  pub at_first : (xs : List X) (x : X) (r : ℕ) → slice_get xs 0 ≡ Some x → r < w x → first_above w xs r ≡ Some x
  at_first [] x r first below = absurd cc
  at_first (y ∷ ys) x r first below =
      let same : y ≡ x = cc in
      ap (λ b. cond b (Some y) (first_above w ys (r - w y))) (lt-ltb r (w y) (subst (λ z. r < w z) (sym same) below)) ∙ ap Some same

  pub past_first : (xs : List X) (x : X) (r : ℕ) → slice_get xs 0 ≡ Some x → w x ≤ r
      → first_above w xs r ≡ first_above w (drop 1 xs) (r - w x)
  past_first [] x r first over = absurd cc
  past_first (y ∷ ys) x r first over =
      let same : y ≡ x = cc in
      ap (λ b. cond b (Some y) (first_above w ys (r - w y))) (le-ltb r (w y) (subst (λ z. w z ≤ r) (sym same) over))
      ∙ ap (λ z. first_above w ys (r - w z)) same

  pub below_rest : (xs : List X) (x : X) (r : ℕ) → slice_get xs 0 ≡ Some x → w x ≤ r → r < total w xs → r - w x < total w (drop 1 xs)
  below_rest [] x r first over below = absurd cc
  below_rest (y ∷ ys) x r first over below =
      let same : w y ≡ w x = ap w (the_same first) in
      omega (arith, same, over, below)

  -- ---- of a whole list

  found_by : (b : Bool) (x : X) (o : Option X) → (b ≡ false → (y : X) × (o ≡ Some y)) → (y : X) × (cond b (Some x) o ≡ Some y)
  found_by true x o rest = (x, refl)
  found_by false x o rest = rest refl

  pub some_above : (xs : List X) (r : ℕ) → r < total w xs → (x : X) × (first_above w xs r ≡ Some x)
  some_above [] r below = absurd (omega (arith, below))
  some_above (x ∷ xs) r below =
      found_by (nat_lt r (w x)) x (first_above w xs (r - w x)) (λ e. some_above xs (r - w x) (omega (arith, ltb-false r (w x) e, below)))

  member_by : (b : Bool) (x : X) (xs : List X) (o : Option X) (y : X) → (o ≡ Some y → Contains xs y) → cond b (Some x) o ≡ Some y
      → Contains (x ∷ xs) y
  member_by true x xs o y rest e = subst (Contains (x ∷ xs)) (the_same e) (Contains-first x xs)
  member_by false x xs o y rest e = Contains-later x xs y (rest e)

  pub above-contains : (xs : List X) (r : ℕ) (y : X) → first_above w xs r ≡ Some y → Contains xs y
  above-contains [] r y e = absurd cc
  above-contains (x ∷ xs) r y e = member_by (nat_lt r (w x)) x xs (first_above w xs (r - w x)) y (above-contains xs (r - w x) y) e
