-- Masks with one more bit.
use Rattle.std.proofs.Common.{◌≡◌, ◌≢◌, ℕ, ◌*◌, ◌%◌, ◌^◌, ◌<◌, Bool, true, false, not, ◌&&◌, refl, sym, ap, inl, inr, ◌∙◌, arith, min}
use Rattle.std.specs.Prelude.{nat_eq, bit_and, bit_or}
use Rattle.std.specs.Int.{bit_at, w64}
use Rattle.std.proofs.lemmas.Bool.{cases_lt, eqb-true, eq-eqb}
use Rattle.std.proofs.lemmas.Bool.Decides.{eqb_tells}
use Rattle.std.proofs.lemmas.Nat.Bits.{bit_at-lt, bit_at-zero, bit_at_and, bit_at_set_same, bit_at_set_other, same_from_bits}

both_ways : (a b : Bool) → (a ≡ true → b ≡ true) → (b ≡ true → a ≡ true) → a ≡ b
both_ways true b forth back = sym (forth refl)
both_ways false true forth back = back refl
both_ways false false forth back = refl

and_true : (b : Bool) → b ≡ (b && true)
and_true true = refl
and_true false = refl

and_false : (b : Bool) → false ≡ (b && false)
and_false true = refl
and_false false = refl

not_true : (b : Bool) → (b ≡ true → ⊥) → b ≡ false
not_true true never = absurd (never refl)
not_true false never = refl

module _ (w m i : ℕ) (within : i < 64) where
  abbrev wider : ℕ
  wider = bit_or m (1 * 2 ^ i % 2 ^ 64)

  at_other : (j : ℕ) → j ≢ i → bit_at (bit_and w wider) j ≡ bit_at (bit_and w m) j
  at_other j other =
      bit_at_and w wider j ∙ ap (min (bit_at w j)) (bit_at_set_other w64 m i within j other) ∙ sym (bit_at_and w m j)

  at_bit : bit_at (bit_and w wider) i ≡ min (bit_at w i) 1
  at_bit = bit_at_and w wider i ∙ ap (min (bit_at w i)) (bit_at_set_same w64 m i within)

  -- where the bit is clear, it changes nothing
  same_where_clear : bit_at w i ≡ 0 → bit_and w wider ≡ bit_and w m
  same_where_clear clear = same_from_bits (bit_and w wider) (bit_and w m) (λ j. elim (eqb_tells j i) [
    | inl here ↦
        let none : min 0 (bit_at m i) ≡ 0 = omega arith in
        ap (bit_at (bit_and w wider)) here.1 ∙ at_bit ∙ ap (λ b. min b 1) clear
        ∙ sym (ap (bit_at (bit_and w m)) here.1 ∙ bit_at_and w m i ∙ ap (λ b. min b (bit_at m i)) clear ∙ none)
    | inr other ↦ at_other j other.1
  ])

  pub none_with_bit : nat_eq (bit_and w wider) 0 ≡ (nat_eq (bit_and w m) 0 && not (nat_eq (bit_at w i) 1))
  none_with_bit = elim (cases_lt (bit_at w i) 1) [
    | inl clear ↦
        let zero : bit_at w i ≡ 0 = omega (arith, clear) in
        ap (λ n. nat_eq n 0) (same_where_clear zero) ∙ and_true (nat_eq (bit_and w m) 0)
        ∙ sym (ap (λ b. nat_eq (bit_and w m) 0 && not (nat_eq b 1)) zero)
    | inr set ↦
        let one : bit_at w i ≡ 1 = omega (arith, set, bit_at-lt w i) in
        not_true (nat_eq (bit_and w wider) 0) (λ e.
        let none : bit_and w wider ≡ 0 = eqb-true (bit_and w wider) 0 e in
        let bits : min (bit_at w i) 1 ≡ 0 = sym at_bit ∙ ap (λ n. bit_at n i) none ∙ bit_at-zero i in
        absurd (omega (arith, bits, one)))
        ∙ and_false (nat_eq (bit_and w m) 0) ∙ sym (ap (λ b. nat_eq (bit_and w m) 0 && not (nat_eq b 1)) one)
  ]

  mask_at_other : (j : ℕ) → j ≢ i → bit_at wider j ≡ bit_at m j
  mask_at_other j other = bit_at_set_other w64 m i within j other

  mask_at_bit : bit_at wider i ≡ 1
  mask_at_bit = bit_at_set_same w64 m i within

  covers_wider : bit_at w i ≡ 1 → bit_and w m ≡ m → bit_and w wider ≡ wider
  covers_wider one covers = same_from_bits (bit_and w wider) wider (λ j. elim (eqb_tells j i) [
    | inl here ↦
        ap (bit_at (bit_and w wider)) here.1 ∙ at_bit ∙ ap (λ b. min b 1) one ∙ sym (ap (bit_at wider) here.1 ∙ mask_at_bit)
    | inr other ↦ at_other j other.1 ∙ ap (λ n. bit_at n j) covers ∙ sym (mask_at_other j other.1)
  ])

  covers_narrower : bit_at w i ≡ 1 → bit_and w wider ≡ wider → bit_and w m ≡ m
  covers_narrower one covers = same_from_bits (bit_and w m) m (λ j. elim (eqb_tells j i) [
    | inl here ↦
        let small : bit_at m i < 2 = bit_at-lt m i in
        let lesser : min 1 (bit_at m i) ≡ bit_at m i = omega (arith, small) in
        ap (bit_at (bit_and w m)) here.1 ∙ bit_at_and w m i ∙ ap (λ b. min b (bit_at m i)) one ∙ lesser
        ∙ sym (ap (bit_at m) here.1)
    | inr other ↦ sym (at_other j other.1) ∙ ap (λ n. bit_at n j) covers ∙ mask_at_other j other.1
  ])

  pub all_with_bit : nat_eq (bit_and w wider) wider ≡ (nat_eq (bit_and w m) m && nat_eq (bit_at w i) 1)
  all_with_bit = elim (cases_lt (bit_at w i) 1) [
    | inl clear ↦
        let zero : bit_at w i ≡ 0 = omega (arith, clear) in
        not_true (nat_eq (bit_and w wider) wider) (λ e.
        let all : bit_and w wider ≡ wider = eqb-true (bit_and w wider) wider e in
        let bits : min (bit_at w i) 1 ≡ 1 = sym at_bit ∙ ap (λ n. bit_at n i) all ∙ mask_at_bit in
        absurd (omega (arith, bits, zero)))
        ∙ and_false (nat_eq (bit_and w m) m) ∙ sym (ap (λ b. nat_eq (bit_and w m) m && nat_eq b 1) zero)
    | inr set ↦
        let one : bit_at w i ≡ 1 = omega (arith, set, bit_at-lt w i) in
        both_ways (nat_eq (bit_and w wider) wider) (nat_eq (bit_and w m) m)
        (λ e. eq-eqb (bit_and w m) m (covers_narrower one (eqb-true (bit_and w wider) wider e)))
        (λ e. eq-eqb (bit_and w wider) wider (covers_wider one (eqb-true (bit_and w m) m e)))
        ∙ and_true (nat_eq (bit_and w m) m) ∙ sym (ap (λ b. nat_eq (bit_and w m) m && nat_eq b 1) one)
  ]
