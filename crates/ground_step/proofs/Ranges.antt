-- Ranges of numbers that pass a test, and the true atoms of a state word by word.
use Rattle.std.proofs.Common.{◌≡◌, ◌≢◌, ℕ, suc, zero, ◌+◌, ◌-◌, ◌*◌, ◌/◌, ◌%◌, ◌<◌, ◌≤◌, Bool, true, false, cond, List, [], ◌∷◌, ◌++◌, length, filter, refl, sym, ap, inl, inr, ◌∙◌, arith}
use Rattle.std.specs.Prelude.{nat_eq, get_or, bit_and, ◌^◌}
use Rattle.std.specs.List.{range_with_len}
use Rattle.std.specs.Int.{bit_at, bit_not, trailing_zeros, w64}
use Rattle.std.proofs.lemmas.Nat.Bits.{bit_at-zero, bit_at-trailing_zeros, bit_at_clear_same, bit_at_clear_other}
use Rattle.std.proofs.lemmas.Bool.Decides.{eqb_tells}
use Rattle.std.proofs.lemmas.List.Elements.{filter-append}
use Rattle.ground_model.specs.Packed.{State, has_bit}
use Rattle.ground_step.specs.Atoms.{word_atoms, words_atoms, true_atoms}

-- ---- filters of ranges

pub filter_alike : (p p' : ℕ → Bool) (a n : ℕ) → ((q : ℕ) → a ≤ q → q < a + n → p q ≡ p' q)
    → filter p (range_with_len a n) ≡ filter p' (range_with_len a n)
filter_alike p p' a zero same = refl
filter_alike p p' a (suc n) same =
    ap (λ b. cond b (a ∷ filter p (range_with_len (a + 1) n)) (filter p (range_with_len (a + 1) n)))
    (same a (omega arith) (omega arith))
    ∙ ap (λ (qs : List ℕ). cond (p' a) (a ∷ qs) qs)
    (filter_alike p p' (a + 1) n (λ q above below. same q (omega arith) (omega arith)))

-- the first number that passes, and the rest without it
pub filter_first : (p p' : ℕ → Bool) (a n t : ℕ) → a ≤ t → t < a + n → p t ≡ true → p' t ≡ false
    → ((q : ℕ) → a ≤ q → q < t → p q ≡ false) → ((q : ℕ) → a ≤ q → q < a + n → q ≢ t → p' q ≡ p q)
    → filter p (range_with_len a n) ≡ t ∷ filter p' (range_with_len a n)
filter_first p p' a zero t above below here gone before others = absurd (omega arith)
filter_first p p' a (suc n) t above below here gone before others = elim (eqb_tells a t) [
  | inl same ↦
      let first : p a ≡ true = ap p same.1 ∙ here in
      let left : p' a ≡ false = ap p' same.1 ∙ gone in
      ap (λ b. cond b (a ∷ filter p (range_with_len (a + 1) n)) (filter p (range_with_len (a + 1) n))) first
      ∙ ap (λ q. q ∷ filter p (range_with_len (a + 1) n)) same.1
      ∙ ap (λ qs. t ∷ qs)
      (filter_alike p p' (a + 1) n (λ q higher within.
      sym (others q (omega arith) (omega arith) (λ e. absurd (omega (arith, same.1, e, higher)))))
      ∙ sym (ap (λ b. cond b (a ∷ filter p' (range_with_len (a + 1) n)) (filter p' (range_with_len (a + 1) n))) left))
  | inr other ↦
      let lower : a < t = omega (arith, other.1) in
      let first : p a ≡ false = before a (omega arith) lower in
      let left : p' a ≡ false = others a (omega arith) (omega arith) other.1 ∙ first in
      ap (λ b. cond b (a ∷ filter p (range_with_len (a + 1) n)) (filter p (range_with_len (a + 1) n))) first
      ∙ filter_first p p' (a + 1) n t (omega (arith, lower)) (omega arith) here gone
      (λ q higher earlier. before q (omega arith) earlier) (λ q higher within. others q (omega arith) (omega arith))
      ∙ sym (ap (λ b. t ∷ cond b (a ∷ filter p' (range_with_len (a + 1) n)) (filter p' (range_with_len (a + 1) n))) left)
]

pub range-append : (a m n : ℕ) → range_with_len a (m + n) ≡ range_with_len a m ++ range_with_len (a + m) n
range-append a zero n =
    let none : zero + n ≡ n = omega arith in
    let same : a ≡ a + zero = omega arith in
    ap (range_with_len a) none ∙ ap (λ b. range_with_len b n) same
range-append a (suc m) n =
    let more : suc m + n ≡ suc (m + n) = omega arith in
    let place : a + 1 + m ≡ a + suc m = omega arith in
    ap (range_with_len a) more ∙ ap (λ qs. a ∷ qs) (range-append (a + 1) m n)
    ∙ ap (λ b. a ∷ (range_with_len (a + 1) m ++ range_with_len b n)) place

-- ---- words

bits_of_first : (word : ℕ) (words : State) (i : ℕ) → i < 64 → has_bit (word ∷ words) i ≡ nat_eq (bit_at word i) 1
bits_of_first word words i within =
    let place : i / 64 ≡ 0 = omega arith in
    let bit : i % 64 ≡ i = omega arith in
    ap (λ k. nat_eq (bit_at (get_or (word ∷ words) k 0) (i % 64)) 1) place ∙ ap (λ k. nat_eq (bit_at word k) 1) bit

bits_of_later : (word : ℕ) (words : State) (i : ℕ) → has_bit (word ∷ words) (64 + i) ≡ has_bit words i
bits_of_later word words i =
    let place : (64 + i) / 64 ≡ suc (i / 64) = omega arith in
    let bit : (64 + i) % 64 ≡ i % 64 = omega arith in
    ap (λ k. nat_eq (bit_at (get_or (word ∷ words) k 0) ((64 + i) % 64)) 1) place
    ∙ ap (λ k. nat_eq (bit_at (get_or words (i / 64) 0) k) 1) bit

words_atoms_are : (base : ℕ) (words : State)
    → words_atoms base words ≡ filter (λ q. has_bit words (q - base)) (range_with_len base (64 * length words))
unfolding word_atoms words_atoms
words_atoms_are base [] = refl
words_atoms_are base (word ∷ words) =
    let split : 64 * suc (length words) ≡ 64 + 64 * length words = omega arith in
    ap (λ qs. qs ++ words_atoms (base + 64) words)
    (filter_alike (λ q. nat_eq (bit_at word (q - base)) 1) (λ q. has_bit (word ∷ words) (q - base)) base 64
    (λ q above below. sym (bits_of_first word words (q - base) (omega arith))))
    ∙ ap (λ qs. filter (λ q. has_bit (word ∷ words) (q - base)) (range_with_len base 64) ++ qs)
    (words_atoms_are (base + 64) words
    ∙ filter_alike (λ q. has_bit words (q - (base + 64))) (λ q. has_bit (word ∷ words) (q - base)) (base + 64) (64 * length words)
    (λ q above below.
    let place : 64 + (q - (base + 64)) ≡ q - base = omega arith in
    sym (bits_of_later word words (q - (base + 64))) ∙ ap (has_bit (word ∷ words)) place))
    ∙ sym (ap (λ n. filter (λ q. has_bit (word ∷ words) (q - base)) (range_with_len base n)) split
    ∙ ap (filter (λ q. has_bit (word ∷ words) (q - base))) (range-append base 64 (64 * length words))
    ∙ filter-append (λ q. has_bit (word ∷ words) (q - base)) (range_with_len base 64) (range_with_len (base + 64) (64 * length words)))

pub words_atoms-true : (s : State) → words_atoms 0 s ≡ true_atoms s
words_atoms-true s =
    words_atoms_are 0 s
    ∙ filter_alike (λ q. has_bit s (q - 0)) (has_bit s) 0 (64 * length s)
    (λ q _ _. let same : q - 0 ≡ q = omega arith in ap (has_bit s) same)

pub words_atoms-cons : (base word : ℕ) (words : State)
    → words_atoms base (word ∷ words) ≡ word_atoms base word ++ words_atoms (base + 64) words
unfolding words_atoms
words_atoms-cons base word words = refl

pub words_atoms-nil : (base : ℕ) → words_atoms base [] ≡ []
unfolding words_atoms
words_atoms-nil base = refl

-- ---- the lowest bit of a word

filter_none : (p : ℕ → Bool) (a n : ℕ) → ((q : ℕ) → p q ≡ false) → filter p (range_with_len a n) ≡ []
filter_none p a zero none = refl
filter_none p a (suc n) none =
    ap (λ b. cond b (a ∷ filter p (range_with_len (a + 1) n)) (filter p (range_with_len (a + 1) n))) (none a)
    ∙ filter_none p (a + 1) n none

pub word_atoms-zero : (base : ℕ) → word_atoms base 0 ≡ []
unfolding word_atoms
word_atoms-zero base =
    filter_none (λ q. nat_eq (bit_at 0 (q - base)) 1) base 64 (λ q. ap (λ b. nat_eq b 1) (bit_at-zero (q - base)))

module _ (base word : ℕ) (some : 0 < word) (fits : word < 2 ^ 64) where
  abbrev lowest : ℕ
  lowest = trailing_zeros w64 word

  abbrev others : ℕ
  others = bit_and word (bit_not w64 (1 * 2 ^ lowest % 2 ^ 64))

  pub word_atoms-lowest : word_atoms base word ≡ (base + lowest) ∷ word_atoms base others
  unfolding word_atoms
  word_atoms-lowest =
      let is = bit_at-trailing_zeros w64 word some fits in
      let place : base + lowest - base ≡ lowest = omega arith in
      filter_first (λ q. nat_eq (bit_at word (q - base)) 1) (λ q. nat_eq (bit_at others (q - base)) 1) base 64 (base + lowest)
      (omega arith) (omega (arith, is.0))
      (ap (λ i. nat_eq (bit_at word i) 1) place ∙ ap (λ b. nat_eq b 1) is.1)
      (ap (λ i. nat_eq (bit_at others i) 1) place ∙ ap (λ b. nat_eq b 1) (bit_at_clear_same w64 word lowest is.0))
      (λ q above below. ap (λ b. nat_eq b 1) (is.2 (q - base) (omega (arith, above, below))))
      (λ q above below other.
      ap (λ b. nat_eq b 1)
      (bit_at_clear_other w64 word lowest is.0 (q - base) (omega (arith, above, below))
      (λ e. other (omega (arith, above, e)))))
