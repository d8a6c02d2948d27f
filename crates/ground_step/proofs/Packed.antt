-- States by their words and by their bits.
use Rattle.std.proofs.Common.{◌≡◌, ◌≢◌, ℕ, suc, zero, ◌+◌, ◌*◌, ◌/◌, ◌%◌, ◌^◌, ◌<◌, ◌≤◌, Bool, true, false, cond, not, ◌&&◌, ◌||◌, length, refl, sym, ap, subst, inl, inr, ◌∙◌, arith}
use Rattle.std.specs.Prelude.{nat_eq, get_or, slice_set, bit_or, bit_and}
use Rattle.std.specs.Int.{bit_at, bit_not, w64}
use Rattle.std.proofs.lemmas.Bool.{cases_lt, eqb-true, eq-eqb, lt-ltb}
use Rattle.std.proofs.lemmas.Bool.Decides.{eqb_tells}
use Rattle.std.proofs.lemmas.Nat.{or_lt, and_le_l}
use Rattle.std.proofs.lemmas.Nat.Bits.{bit_at-lt, bit_at-zero, bit_at_set_same, bit_at_set_other, bit_at_clear_same, bit_at_clear_other, same_from_bits_below}
use Rattle.std.proofs.Math.Nat.{pow-suc, pow-zero}
use Rattle.std.proofs.lemmas.List.{get_or_past, get_or-set_same, get_or-set_other, ext_get_or, length-set}
use Rattle.std.proofs.lemmas.List.FromFn.{get_or-map-range_with_len}
use Rattle.ground_model.specs.Packed.{State, has_bit, number_of, packed}
use Rattle.ground_model.proofs.Packed.{length-packed, has_bit-packed}
use Rattle.ground_step.specs.Edits.{with_atom, without_atom}

-- ---- words with the same bits

pub AreWords : State → Type 0
AreWords s = (k : ℕ) → get_or s k 0 < 2 ^ 64

pub are_words : (s : State) → ((k : ℕ) → get_or s k 0 < 2 ^ 64) → AreWords s
unfolding AreWords
are_words s each = each

first_bit : (b : Bool) (m p q : ℕ) → m < p → q ≡ p * 2 → cond b 1 0 + 2 * m < q
first_bit true m p q below e = omega (arith, below, e)
first_bit false m p q below e = omega (arith, below, e)

number_below : (f : ℕ → Bool) (n : ℕ) → number_of f n < 2 ^ n
number_below f zero = omega (arith, pow-zero 2)
number_below f (suc n) =
    first_bit (f 0) (number_of (λ i. f (suc i)) n) (2 ^ n) (2 ^ suc n) (number_below (λ i. f (suc i)) n) (pow-suc 2 n)

packed_words : (f : ℕ → Bool) (n : ℕ) → AreWords (packed f n)
unfolding AreWords
packed_words f n k = elim (cases_lt k n) [
  | inl within ↦
      subst (λ w. w < 2 ^ 64)
      (sym (get_or-map-range_with_len (λ k. number_of (λ i. f (64 * k + i)) 64) 0 n k k 0 within (omega arith)))
      (number_below (λ i. f (64 * k + i)) 64)
  | inr past ↦
      subst (λ w. w < 2 ^ 64) (sym (get_or_past (packed f n) k 0 (omega (arith, past, length-packed f n)))) (omega arith)
]

set_words : (s : State) → AreWords s → (k new : ℕ) → new < 2 ^ 64 → k < length s → AreWords (slice_set s k new)
unfolding AreWords
set_words s are k new below within j = elim (eqb_tells j k) [
  | inl same ↦
      subst (λ w. w < 2 ^ 64)
      (sym (ap (λ i. get_or (slice_set s k new) i 0) same.1 ∙ get_or-set_same s k new 0 within)) below
  | inr other ↦ subst (λ w. w < 2 ^ 64) (sym (get_or-set_other s k j new 0 other.1)) (are j)
]

bit_tested : (a b : ℕ) → a < 2 → b < 2 → nat_eq a 1 ≡ nat_eq b 1 → a ≡ b
bit_tested a b small small' e = elim (cases_lt a 1) [
  | inl none ↦ elim (cases_lt b 1) [
    | inl none' ↦ omega (arith, none, none')
    | inr one ↦
        let is_one : nat_eq b 1 ≡ true = eq-eqb b 1 (omega (arith, small', one)) in
        let both : a ≡ 1 = eqb-true a 1 (e ∙ is_one) in
        absurd (omega (arith, none, both))
  ]
  | inr one ↦
      let is_one : nat_eq a 1 ≡ true = eq-eqb a 1 (omega (arith, small, one)) in
      let both : b ≡ 1 = eqb-true b 1 (sym e ∙ is_one) in
      omega (arith, small, one, both)
]

pub bit_of : (s : State) (k i : ℕ) → i < 64 → has_bit s (64 * k + i) ≡ nat_eq (bit_at (get_or s k 0) i) 1
bit_of s k i below =
    let word : (64 * k + i) / 64 ≡ k = omega (arith, below) in
    let bit : (64 * k + i) % 64 ≡ i = omega (arith, below) in
    ap (λ z. nat_eq (bit_at (get_or s z 0) ((64 * k + i) % 64)) 1) word
    ∙ ap (λ z. nat_eq (bit_at (get_or s k 0) z) 1) bit

same_by_bits : (s t : State) → length s ≡ length t → AreWords s → AreWords t
    → ((q : ℕ) → q < 64 * length s → has_bit s q ≡ has_bit t q) → s ≡ t
unfolding AreWords
same_by_bits s t long are are' each =
    ext_get_or 0 s t long
    (λ k within. same_from_bits_below 64 (get_or s k 0) (get_or t k 0) (are k) (are' k)
    (λ i below.
    bit_tested (bit_at (get_or s k 0) i) (bit_at (get_or t k 0) i) (bit_at-lt (get_or s k 0) i) (bit_at-lt (get_or t k 0) i)
    (sym (bit_of s k i below) ∙ each (64 * k + i) (omega (arith, within, below)) ∙ bit_of t k i below)))

pub packed_bit : (f : ℕ → Bool) (n q : ℕ) → q < 64 * n → has_bit (packed f n) q ≡ f q
packed_bit f n q within = has_bit-packed f n q ∙ ap (λ b. b && f q) (lt-ltb q (64 * n) within)

-- words with these bits are the packed words
same_as_packed : (s : State) (f : ℕ → Bool) (n : ℕ) → length s ≡ n → AreWords s
    → ((q : ℕ) → q < 64 * n → has_bit s q ≡ f q) → s ≡ packed f n
same_as_packed s f n long are each =
    same_by_bits s (packed f n) (long ∙ sym (length-packed f n)) are (packed_words f n)
    (λ q within.
    let below : q < 64 * n = omega (arith, within, long) in
    each q below ∙ sym (packed_bit f n q below))

pub is_packed : (s : State) → AreWords s → s ≡ packed (has_bit s) (length s)
is_packed s are = same_as_packed s (has_bit s) (length s) refl are (λ q _. refl)

-- ---- one bit of a word, set or cleared

not_equal : (b : Bool) (q a : ℕ) → (b ≡ true → q ≡ a) → q ≢ a → b ≡ false
not_equal true q a e h = absurd (h (e refl))
not_equal false q a e h = refl

one_place : (q a : ℕ) → q / 64 ≡ a / 64 → q % 64 ≡ a % 64 → q ≡ a
one_place q a one two = omega (arith, one, two)

-- the bits of a state where a word is put in the place of that of a
module _ (s : State) (a new : ℕ) (within : a / 64 < length s) where
  at_other_words : (q : ℕ) → q / 64 ≢ a / 64 → has_bit (slice_set s (a / 64) new) q ≡ has_bit s q
  at_other_words q other =
      ap (λ n. nat_eq (bit_at n (q % 64)) 1) (get_or-set_other s (a / 64) (q / 64) new 0 other)

  at_same_word : (q : ℕ) → q / 64 ≡ a / 64 → has_bit (slice_set s (a / 64) new) q ≡ nat_eq (bit_at new (q % 64)) 1
  at_same_word q same =
      ap (λ n. nat_eq (bit_at n (q % 64)) 1)
      (ap (λ i. get_or (slice_set s (a / 64) new) i 0) same ∙ get_or-set_same s (a / 64) new 0 within)

  -- all bits but that of a stay, and that of a is given
  pub one_bit_put : (b : Bool) → nat_eq (bit_at new (a % 64)) 1 ≡ b
      → ((i : ℕ) → i < 64 → i ≢ a % 64 → bit_at new i ≡ bit_at (get_or s (a / 64) 0) i)
      → (q : ℕ) → has_bit (slice_set s (a / 64) new) q ≡ cond (nat_eq q a) b (has_bit s q)
  one_bit_put b here others q = elim (eqb_tells (q / 64) (a / 64)) [
    | inl same ↦ elim (eqb_tells (q % 64) (a % 64)) [
      | inl bit ↦
          at_same_word q same.1 ∙ ap (λ i. nat_eq (bit_at new i) 1) bit.1 ∙ here
          ∙ sym (ap (λ t. cond t b (has_bit s q)) (eq-eqb q a (one_place q a same.1 bit.1)))
      | inr bit ↦
          let other : q ≢ a = λ e. bit.1 (ap (λ n. n % 64) e) in
          at_same_word q same.1 ∙ ap (λ n. nat_eq n 1) (others (q % 64) (omega arith) bit.1)
          ∙ ap (λ i. nat_eq (bit_at (get_or s i 0) (q % 64)) 1) (sym same.1)
          ∙ sym (ap (λ t. cond t b (has_bit s q)) (not_equal (nat_eq q a) q a (eqb-true q a) other))
    ]
    | inr apart ↦
        let other : q ≢ a = λ e. apart.1 (ap (λ n. n / 64) e) in
        at_other_words q apart.1
        ∙ sym (ap (λ t. cond t b (has_bit s q)) (not_equal (nat_eq q a) q a (eqb-true q a) other))
  ]

cond_or : (t b : Bool) → cond t true b ≡ (t || b)
cond_or true b = refl
cond_or false b = refl

cond_and : (t b : Bool) → cond t false b ≡ (not t && b)
cond_and true b = refl
cond_and false b = refl

below_power : (k : ℕ) → 1 * 2 ^ k % 2 ^ 64 < 2 ^ 64
below_power k = omega arith

and_below : (a b : ℕ) → a < 2 ^ 64 → bit_and a b < 2 ^ 64
and_below a b below = omega (arith, below, and_le_l a b)

word_below : (s : State) → AreWords s → (k : ℕ) → get_or s k 0 < 2 ^ 64
unfolding AreWords
word_below s are k = are k

module _ (s : State) (are : AreWords s) (a : ℕ) where
  abbrev mask : ℕ
  mask = 1 * 2 ^ (a % 64) % 2 ^ 64

  abbrev word : ℕ
  word = get_or s (a / 64) 0

  pub set_is_with : a / 64 < length s → slice_set s (a / 64) (bit_or word mask) ≡ with_atom s a
  set_is_with within =
      same_as_packed (slice_set s (a / 64) (bit_or word mask)) (λ q. nat_eq q a || has_bit s q) (length s)
      (length-set s (a / 64) (bit_or word mask))
      (set_words s are (a / 64) (bit_or word mask)
      (or_lt 64 word mask (word_below s are (a / 64)) (below_power (a % 64))) within)
      (λ q _.
      one_bit_put s a (bit_or word mask) within true
      (ap (λ n. nat_eq n 1) (bit_at_set_same w64 word (a % 64) (omega arith)))
      (λ i _ other. bit_at_set_other w64 word (a % 64) (omega arith) i other) q
      ∙ cond_or (nat_eq q a) (has_bit s q))

  pub cleared_is_without : a / 64 < length s → slice_set s (a / 64) (bit_and word (bit_not w64 mask)) ≡ without_atom s a
  cleared_is_without within =
      same_as_packed (slice_set s (a / 64) (bit_and word (bit_not w64 mask))) (λ q. not (nat_eq q a) && has_bit s q) (length s)
      (length-set s (a / 64) (bit_and word (bit_not w64 mask)))
      (set_words s are (a / 64) (bit_and word (bit_not w64 mask))
      (and_below word (bit_not w64 mask) (word_below s are (a / 64))) within)
      (λ q _.
      one_bit_put s a (bit_and word (bit_not w64 mask)) within false
      (ap (λ n. nat_eq n 1) (bit_at_clear_same w64 word (a % 64) (omega arith)))
      (λ i below other. bit_at_clear_other w64 word (a % 64) (omega arith) i below other) q
      ∙ cond_and (nat_eq q a) (has_bit s q))

  past_last : length s ≤ a / 64 → (q : ℕ) → q < 64 * length s → nat_eq q a ≡ false
  past_last past q within = not_equal (nat_eq q a) q a (eqb-true q a) (λ e. absurd (omega (arith, past, within, e)))

  pub left_is_with : length s ≤ a / 64 → s ≡ with_atom s a
  left_is_with past =
      same_as_packed s (λ q. nat_eq q a || has_bit s q) (length s) refl are
      (λ q within. sym (ap (λ t. t || has_bit s q) (past_last past q within)))

  pub left_is_without : length s ≤ a / 64 → s ≡ without_atom s a
  left_is_without past =
      same_as_packed s (λ q. not (nat_eq q a) && has_bit s q) (length s) refl are
      (λ q within. sym (ap (λ t. not t && has_bit s q) (past_last past q within)))

pub zeros_are_packed : (s : State) (n : ℕ) → length s ≡ n → ((k : ℕ) → k < n → get_or s k 0 ≡ 0) → s ≡ packed (λ _. false) n
unfolding AreWords
zeros_are_packed s n long zeros =
    let zero_at : (k : ℕ) → get_or s k 0 ≡ 0 = λ k. elim (cases_lt k n) [
      | inl within ↦ zeros k within
      | inr past ↦ get_or_past s k 0 (omega (arith, past, long))
    ] in
    same_as_packed s (λ _. false) n long (λ k. omega (arith, zero_at k))
    (λ q _. ap (λ w. nat_eq (bit_at w (q % 64)) 1) (zero_at (q / 64)) ∙ ap (λ b. nat_eq b 1) (bit_at-zero (q % 64)))
