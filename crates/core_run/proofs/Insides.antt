-- The bits of the first atoms, one atom more at a time.
use Rattle.std.proofs.Common.{◌≡◌, ◌≢◌, ℕ, ◌+◌, ◌*◌, ◌<◌, Bool, true, false, ◌&&◌, ◌||◌, refl, sym, ap, inl, inr, ◌∙◌, arith}
use Rattle.std.specs.Prelude.{nat_eq, nat_lt}
use Rattle.std.proofs.lemmas.Bool.{cases_lt, cases_eq, lt-ltb, le-ltb, eq-eqb, ne_eqb}
use Rattle.ground_model.specs.Packed.{State, has_bit, packed}
use Rattle.ground_model.proofs.Packed.{same_packed, length-packed, has_bit-packed}
use Rattle.ground_step.specs.Edits.{with_atom}

module _ (bit : ℕ → Bool) (w : ℕ) where
  abbrev first_bits : ℕ → ℕ → Bool
  first_bits i q = nat_lt q i && bit q

  pub no_bits : packed (λ _. false) w ≡ packed (λ q. nat_lt q 0 && bit q) w
  no_bits = same_packed (λ _. false) (first_bits 0) w (λ q _. sym (ap (λ b. b && bit q) (le-ltb q 0 (omega arith))))

  bit_skipped : (i q : ℕ) → bit i ≡ false → first_bits i q ≡ first_bits (i + 1) q
  bit_skipped i q off = elim (cases_eq q i) [
    | inl same ↦
        let none : bit q ≡ false = ap bit same ∙ off in
        ap (λ b. nat_lt q i && b) none ∙ and_false (nat_lt q i) ∙ sym (and_false (nat_lt q (i + 1))) ∙ sym (ap (λ b. nat_lt q (i + 1) && b) none)
    | inr apart ↦ ap (λ b. b && bit q) (same_test i q apart)
  ]
    where
      and_false : (b : Bool) → (b && false) ≡ false
      and_false true = refl
      and_false false = refl

      same_test : (i q : ℕ) → q ≢ i → nat_lt q i ≡ nat_lt q (i + 1)
      same_test i q apart = elim (cases_lt q i) [
        | inl below ↦ lt-ltb q i below ∙ sym (lt-ltb q (i + 1) (omega arith))
        | inr above ↦ le-ltb q i above ∙ sym (le-ltb q (i + 1) (omega arith))
      ]

  pub bits_skip : (i : ℕ) (next : State) → bit i ≡ false → next ≡ packed (λ q. nat_lt q i && bit q) w
      → next ≡ packed (λ q. nat_lt q (i + 1) && bit q) w
  bits_skip i next off so_far = so_far ∙ same_packed (first_bits i) (first_bits (i + 1)) w (λ q _. bit_skipped i q off)

  bit_added : (i q : ℕ) → q < 64 * w → bit i ≡ true → (nat_eq q i || (nat_lt q (64 * w) && first_bits i q)) ≡ first_bits (i + 1) q
  bit_added i q inside on =
      ap (λ b. nat_eq q i || (b && first_bits i q)) (lt-ltb q (64 * w) inside) ∙ elim (cases_eq q i) [
        | inl same ↦
            ap (λ b. b || first_bits i q) (eq-eqb q i same)
            ∙ sym (ap (λ b. b && bit q) (lt-ltb q (i + 1) (omega arith)) ∙ ap bit same ∙ on)
        | inr apart ↦ ap (λ b. b || first_bits i q) (ne_eqb q i apart) ∙ elim (cases_lt q i) [
          | inl below ↦ ap (λ b. b && bit q) (lt-ltb q i below ∙ sym (lt-ltb q (i + 1) (omega arith)))
          | inr above ↦ ap (λ b. b && bit q) (le-ltb q i above ∙ sym (le-ltb q (i + 1) (omega arith)))
        ]
      ]

  pub bits_add : (i : ℕ) (next next' : State) → bit i ≡ true → next ≡ packed (λ q. nat_lt q i && bit q) w
      → next' ≡ with_atom next i → next' ≡ packed (λ q. nat_lt q (i + 1) && bit q) w
  bits_add i next next' on so_far made =
      made ∙ ap (λ s. with_atom s i) so_far
      ∙ ap (packed (λ q. nat_eq q i || has_bit (packed (first_bits i) w) q)) (length-packed (first_bits i) w)
      ∙ same_packed (λ q. nat_eq q i || has_bit (packed (first_bits i) w) q) (first_bits (i + 1)) w
      (λ q inside. ap (λ b. nat_eq q i || b) (has_bit-packed (first_bits i) w q) ∙ bit_added i q inside on)
