-- What stands first above a number is the item at the first place whose running sum is above it.
use Rattle.std.proofs.Common.{◌≡◌, ℕ, suc, zero, ◌+◌, ◌-◌, ◌<◌, ◌≤◌, Bool, true, false, cond, nat_lt, List, [], ◌∷◌, map, take, Option, Some, refl, ap, ◌∙◌, arith}
use Rattle.std.specs.Prelude.{sum}
use Rattle.std.specs.List.{slice_get}
use Rattle.std.proofs.lemmas.Bool.{ltb-true, ltb-false}
use Rattle.std.proofs.lemmas.List.Sums.{sum_by-cons}
use Rattle.brtdp_trial.specs.Draws.{IsFirstAbove}
use Rattle.plain_list.specs.weighted.Mean.{total}
use Rattle.policy_walk.specs.Laws as laws
use Rattle.policy_walk.specs.Walks.{first_above}

-- a running sum, behind its first number
running : (b : ℕ) (bs : List ℕ) (k : ℕ) → sum (take (suc k) (b ∷ bs)) ≡ b + sum (take k bs)
running b bs k = sum_by-cons (λ (n : ℕ). n) b (take k bs)

later : (k : ℕ) → suc k + 1 ≡ suc (k + 1)
later k = omega arith

later_sum : (b : ℕ) (bs : List ℕ) (k : ℕ) → sum (take (suc k + 1) (b ∷ bs)) ≡ b + sum (take (k + 1) bs)
later_sum b bs k = ap (λ n. sum (take n (b ∷ bs))) (later k) ∙ running b bs (k + 1)

module _ {X : Type 0} (w : X → ℕ) where
  Found : List X → ℕ → Option X → Type 0
  Found xs r o = (i : ℕ) × IsFirstAbove (map w xs) r i × (o ≡ slice_get xs i)

  first_over : (x : X) (xs : List X) (r j : ℕ) → w x ≤ r → IsFirstAbove (map w xs) (r - w x) j
      → (i : ℕ) → i < suc j → sum (take (i + 1) (w x ∷ map w xs)) ≤ r
  first_over x xs r j over is zero below = let h = running (w x) (map w xs) 0 in omega (arith, h, over)
  first_over x xs r j over is (suc i) below =
      let h = later_sum (w x) (map w xs) i in
      let f = is.first i (omega (arith, below)) in
      omega (arith, h, f, over)

  by_test : (x : X) (xs : List X) (r : ℕ) (b : Bool) → nat_lt r (w x) ≡ b → (b ≡ false → Found xs (r - w x) (first_above w xs (r - w x)))
      → Found (x ∷ xs) r (cond b (Some x) (first_above w xs (r - w x)))
  unfolding Found
  by_test x xs r true test rest = (
    0,
    record {
      within = omega arith;
      above = let h = running (w x) (map w xs) 0 in let below = ltb-true r (w x) test in omega (arith, h, below);
      first = λ j none. absurd (omega (arith, none));
    },
    refl,
  )
  by_test x xs r false test rest =
      let over = ltb-false r (w x) test in
      let found = rest refl in (
        suc found.0,
        record {
          within = let h = found.1.within in omega (arith, h);
          above = let h = later_sum (w x) (map w xs) found.0 in let a = found.1.above in omega (arith, h, a, over);
          first = first_over x xs r found.0 over found.1;
        },
        found.2,
      )

  is_first : (xs : List X) (r : ℕ) → r < total w xs → Found xs r (first_above w xs r)
  unfolding Found
  is_first [] r below = absurd (omega (arith, below))
  is_first (x ∷ xs) r below =
      by_test x xs r (nat_lt r (w x)) refl (λ e. is_first xs (r - w x) (let over = ltb-false r (w x) e in omega (arith, over, below)))

pub first_above_is_first : {X : Type 0} → laws.FirstAboveIsFirst X
unfolding Found
first_above_is_first w xs r below = is_first w xs r below
