-- The order of the atoms of states that are first apart in one atom.
use Rattle.std.proofs.Common.{◌≡◌, ◌≢◌, inl, inr, ℕ, zero, suc, ◌+◌, ◌-◌, ◌*◌, ◌/◌, ◌%◌, ◌^◌, ◌<◌, ◌≤◌, Bool, true, false, cond, List, [], ◌∷◌, ◌++◌, length, get_or, refl, sym, ap, subst, ◌∙◌, arith, Ordering}
use Rattle.std.specs.Prelude.{filter, nat_eq, bit_and, bit_xor}
use Rattle.std.specs.List.{range_with_len}
use Rattle.std.specs.Int.{bit_at, trailing_zeros, w64}
use Rattle.std.specs.Ordering.{nat_cmp, ordering_then, ordering_reverse}
use Rattle.std.specs.declared.cmp.Ordering.TheVariants.{Less, Equal, Greater}
use Rattle.std.specs.Cmp.Lexicographic.{slice_cmp, nat_list_cmp_total}
use Rattle.std.proofs.Math.ListN.{get_or-eq_default}
use Rattle.std.proofs.Math.Nat.{div-le_self}
use Rattle.std.proofs.lemmas.Bool.{cases_Bool, cases_lt, cases_eq, true≢false, le-ltb, eq-eqb}
use Rattle.std.proofs.lemmas.Nat.{shr-shr, xor_lt}
use Rattle.std.proofs.lemmas.Nat.Bits.{bit_at-zero, bit_at-lt, bit_at_xor, bit_at_above, bit_at-trailing_zeros, same_from_bits, shr_and_one}
use Rattle.std.proofs.lemmas.List.Elements.{filter-append}
use Rattle.plain_list.specs.Texts.{compare_texts}
use Rattle.ground_model.specs.Packed.{State, has_bit}
use Rattle.ground_step.specs.Atoms.{true_atoms}
use Rattle.ground_step.proofs.Packed.{bit_of}
use Rattle.ground_step.proofs.Ranges.{filter_alike, range-append}
use Rattle.certificate.proofs.Sorted.{same_as}
use Rattle.plan_report.specs.certificates.Order.{AgreeBelow, HasAtomFrom, HasNoneFrom}
use Rattle.plan_report.proofs.lemmas.certificates.Places.{numbers_below}

-- ---- filters of ranges

none_pass : (p : ℕ → Bool) (a n : ℕ) → ((q : ℕ) → a ≤ q → p q ≡ false) → filter p (range_with_len a n) ≡ []
none_pass p a zero none = refl
none_pass p a (suc n) none =
    ap (λ b. cond b (a ∷ filter p (range_with_len (a + 1) n)) (filter p (range_with_len (a + 1) n))) (none a (omega arith))
    ∙ none_pass p (a + 1) n (λ q above. none q (omega (arith, above)))

-- a list whose first number is below all that pass
first_below : (p : ℕ → Bool) (a n low u : ℕ) (xs : List ℕ) → low < a → a ≤ u → u < a + n → p u ≡ true
    → slice_cmp nat_cmp (low ∷ xs) (filter p (range_with_len a n)) ≡ Less
first_below p a zero low u xs less above below on = absurd (omega (arith, above, below))
first_below p a (suc n) low u xs less above below on = elim (cases_Bool (p a)) [
  | inl passes ↦
      ap (λ b. slice_cmp nat_cmp (low ∷ xs) (cond b (a ∷ filter p (range_with_len (a + 1) n)) (filter p (range_with_len (a + 1) n)))) passes
      ∙ ap (λ o. ordering_then o (slice_cmp nat_cmp xs (filter p (range_with_len (a + 1) n)))) (numbers_below low a less)
  | inr fails ↦
      let other : u ≢ a = λ same. true≢false (sym on ∙ ap p same ∙ fails) in
      ap (λ b. slice_cmp nat_cmp (low ∷ xs) (cond b (a ∷ filter p (range_with_len (a + 1) n)) (filter p (range_with_len (a + 1) n)))) fails
      ∙ first_below p (a + 1) n low u xs (omega (arith, less)) (omega (arith, above, other)) (omega (arith, below)) on
]

same_number : (a : ℕ) (xs ys : List ℕ) → slice_cmp nat_cmp (a ∷ xs) (a ∷ ys) ≡ slice_cmp nat_cmp xs ys
same_number a xs ys = rw (le-ltb a a (omega arith), eq-eqb a a refl) refl

-- tests that agree below t, which passes the first and not the second
module _ (p q : ℕ → Bool) (t : ℕ) (here : p t ≡ true) (gone : q t ≡ false) where
  apart_by : (o : Ordering) (a n : ℕ) → a ≤ t → t < a + n → ((k : ℕ) → a ≤ k → k < t → p k ≡ q k)
      → ((m : ℕ) → t < m → (xs : List ℕ) → (k : ℕ) → m ≡ t + 1 → a + n ≡ m + k → slice_cmp nat_cmp (t ∷ xs) (filter q (range_with_len m k)) ≡ o)
      → slice_cmp nat_cmp (filter p (range_with_len a n)) (filter q (range_with_len a n)) ≡ o
  apart_by o a zero above below agree then = absurd (omega (arith, above, below))
  apart_by o a (suc n) above below agree then = elim (cases_eq a t) [
    | inl same ↦
        (λ j. slice_cmp nat_cmp
        (cond ((ap p same ∙ here) j) (a ∷ filter p (range_with_len (a + 1) n)) (filter p (range_with_len (a + 1) n)))
        (cond ((ap q same ∙ gone) j) (a ∷ filter q (range_with_len (a + 1) n)) (filter q (range_with_len (a + 1) n))))
        ∙ ap (λ k. slice_cmp nat_cmp (k ∷ filter p (range_with_len (a + 1) n)) (filter q (range_with_len (a + 1) n))) same
        ∙ then (a + 1) (omega (arith, same)) (filter p (range_with_len (a + 1) n)) n (omega (arith, same)) (omega arith)
    | inr apart ↦
        let rest = apart_by o (a + 1) n (omega (arith, above, apart)) (omega (arith, below))
        (λ k low high. agree k (omega (arith, low)) high)
        (λ m more xs k is long. then m more xs k is (omega (arith, long))) in
        ap (λ b. slice_cmp nat_cmp (cond b (a ∷ filter p (range_with_len (a + 1) n)) (filter p (range_with_len (a + 1) n)))
        (filter q (range_with_len a (suc n)))) (agree a (omega arith) (omega (arith, above, apart)))
        ∙ both_or_none (q a) a (filter p (range_with_len (a + 1) n)) (filter q (range_with_len (a + 1) n)) ∙ rest
  ]
    where
      both_or_none : (b : Bool) (k : ℕ) (xs ys : List ℕ) → slice_cmp nat_cmp (cond b (k ∷ xs) xs) (cond b (k ∷ ys) ys) ≡ slice_cmp nat_cmp xs ys
      both_or_none true k xs ys = same_number k xs ys
      both_or_none false k xs ys = refl

-- ---- the atoms of states

past_words : (s : State) (q : ℕ) → 64 * length s ≤ q → has_bit s q ≡ false
past_words s q past =
    let none : get_or s (q / 64) 0 ≡ 0 = get_or-eq_default s 0 (omega (arith, past)) in
    ap (λ w. nat_eq (bit_at w (q % 64)) 1) none ∙ ap (λ b. nat_eq b 1) (bit_at-zero (q % 64))

append-none : (xs : List ℕ) → xs ++ [] ≡ xs
append-none [] = refl
append-none (x ∷ xs) = ap (λ l. x ∷ l) (append-none xs)

widened : (s : State) (more : ℕ) → true_atoms s ≡ filter (has_bit s) (range_with_len 0 (64 * length s + more))
widened s more =
    let start : 0 + 64 * length s ≡ 64 * length s = omega arith in
    sym (ap (filter (has_bit s)) (range-append 0 (64 * length s) more)
    ∙ ap (λ b. filter (has_bit s) (range_with_len 0 (64 * length s) ++ range_with_len b more)) start
    ∙ filter-append (has_bit s) (range_with_len 0 (64 * length s)) (range_with_len (64 * length s) more)
    ∙ ap (λ l. true_atoms s ++ l) (none_pass (has_bit s) (64 * length s) more (past_words s))
    ∙ append-none (true_atoms s))

module _ (s t : State) (q : ℕ) (here : has_bit s q ≡ true) (gone : has_bit t q ≡ false) (agree : (k : ℕ) → k < q → has_bit s k ≡ has_bit t k) where
  abbrev width : ℕ
  width = 64 * length s + (64 * length t + suc q)

  wide : compare_texts (true_atoms s) (true_atoms t)
      ≡ slice_cmp nat_cmp (filter (has_bit s) (range_with_len 0 width)) (filter (has_bit t) (range_with_len 0 width))
  wide =
      let same : 64 * length t + (64 * length s + suc q) ≡ width = omega arith in
      λ j. slice_cmp nat_cmp (widened s (64 * length t + suc q) j)
      ((widened t (64 * length s + suc q) ∙ ap (λ n. filter (has_bit t) (range_with_len 0 n)) same) j)

  pub goes_before : HasAtomFrom t q → compare_texts (true_atoms s) (true_atoms t) ≡ Less
  goes_before more =
      let other : more.0 ≢ q = λ same. true≢false (sym more.3 ∙ ap (has_bit t) same ∙ gone) in
      wide ∙ apart_by (has_bit s) (has_bit t) q here gone Less 0 width (omega arith) (omega arith) (λ k _ below. agree k below)
      (λ m above xs k is long.
      first_below (has_bit t) m k q more.0 xs above (omega (arith, more.1, other, is)) (omega (arith, more.2, long)) more.3)

  pub goes_behind : HasNoneFrom t q → compare_texts (true_atoms s) (true_atoms t) ≡ Greater
  goes_behind none =
      wide ∙ apart_by (has_bit s) (has_bit t) q here gone Greater 0 width (omega arith) (omega arith) (λ k _ below. agree k below)
      (λ m above xs k is long. ap (slice_cmp nat_cmp (q ∷ xs)) (none_pass (has_bit t) m k (λ u from. none u (omega (arith, above, from)))))

pub turned_less : (s t : State) → compare_texts (true_atoms t) (true_atoms s) ≡ Greater → compare_texts (true_atoms s) (true_atoms t) ≡ Less
turned_less s t is = nat_list_cmp_total.antisymm (true_atoms s) (true_atoms t) ∙ ap ordering_reverse is

pub turned_greater : (s t : State) → compare_texts (true_atoms t) (true_atoms s) ≡ Less → compare_texts (true_atoms s) (true_atoms t) ≡ Greater
turned_greater s t is = nat_list_cmp_total.antisymm (true_atoms s) (true_atoms t) ∙ ap ordering_reverse is

pub same_words : (s t : State) (n : ℕ) → length s ≤ n → length t ≤ n → AgreeBelow s t n → compare_texts (true_atoms s) (true_atoms t) ≡ Equal
same_words s t n long long' agree =
    wide_both ∙ same_as (true_atoms t)
  where
    each : (q : ℕ) → has_bit s q ≡ has_bit t q
    each q = ap (λ w. nat_eq (bit_at w (q % 64)) 1) (words (q / 64))
      where
        words : (k : ℕ) → get_or s k 0 ≡ get_or t k 0
        words k = elim (cases_lt k n) [
          | inl within ↦ agree k within
          | inr past ↦ get_or-eq_default s 0 (omega (arith, long, past)) ∙ sym (get_or-eq_default t 0 (omega (arith, long', past)))
        ]

    wide_both : compare_texts (true_atoms s) (true_atoms t) ≡ compare_texts (true_atoms t) (true_atoms t)
    wide_both =
        let same : 64 * length t + 64 * length s ≡ 64 * length s + 64 * length t = omega arith in
        ap (λ l. compare_texts l (true_atoms t))
        (widened s (64 * length t)
        ∙ filter_alike (has_bit s) (has_bit t) 0 (64 * length s + 64 * length t) (λ q _ _. each q)
        ∙ sym (widened t (64 * length s) ∙ ap (λ n. filter (has_bit t) (range_with_len 0 n)) same))

-- ---- the lowest bit that differs, and the order by it

some_apart : (a b : ℕ) → a ≢ b → 0 < bit_xor a b
some_apart a b apart = elim (cases_lt 0 (bit_xor a b)) [
  | inl some ↦ some
  | inr none ↦
      let nothing : bit_xor a b ≡ 0 = omega (arith, none) in
      absurd (apart (same_from_bits a b (λ i.
      let x = bit_at_xor a b i in let y : bit_at (bit_xor a b) i ≡ 0 = ap (λ w. bit_at w i) nothing ∙ bit_at-zero i in
      let u = bit_at-lt a i in let v = bit_at-lt b i in alike (bit_at a i) (bit_at b i) u v (sym x ∙ y))))
]
  where
    alike : (x y : ℕ) → x < 2 → y < 2 → (x + y) % 2 ≡ 0 → x ≡ y
    alike x y u v even = omega (arith, u, v, even)

module _ (s t : State) (place : ℕ) (before : AgreeBelow s t place) (apart : get_or s place 0 ≢ get_or t place 0)
    (ours_fits : get_or s place 0 < 2 ^ 64) (theirs_fits : get_or t place 0 < 2 ^ 64) where
  abbrev a : ℕ
  a = get_or s place 0

  abbrev b : ℕ
  b = get_or t place 0

  abbrev bit : ℕ
  bit = trailing_zeros w64 (bit_xor a b)

  lowest : (bit < 64) × (bit_at (bit_xor a b) bit ≡ 1) × ((i : ℕ) → i < bit → bit_at (bit_xor a b) i ≡ 0)
  lowest = bit_at-trailing_zeros w64 (bit_xor a b) (some_apart a b apart) (xor_lt 64 a b ours_fits theirs_fits)

  bit_small : bit < 64
  bit_small = lowest.0

  agree_below : (q : ℕ) → q < 64 * place + bit → has_bit s q ≡ has_bit t q
  agree_below q below = elim (cases_lt (q / 64) place) [
    | inl earlier ↦ ap (λ w. nat_eq (bit_at w (q % 64)) 1) (before (q / 64) earlier)
    | inr there ↦
        let small = bit_small in
        let k : q / 64 ≡ place = omega (arith, below, small, there) in
        let i : q % 64 < bit = omega (arith, below, small, k) in
        ap (λ p. nat_eq (bit_at (get_or s p 0) (q % 64)) 1) k
        ∙ ap (λ v. nat_eq v 1) (alike (bit_at a (q % 64)) (bit_at b (q % 64)) (bit_at-lt a (q % 64)) (bit_at-lt b (q % 64))
        (sym (bit_at_xor a b (q % 64)) ∙ lowest.2 (q % 64) i))
        ∙ sym (ap (λ p. nat_eq (bit_at (get_or t p 0) (q % 64)) 1) k)
  ]
    where
      alike : (x y : ℕ) → x < 2 → y < 2 → (x + y) % 2 ≡ 0 → x ≡ y
      alike x y u v even = omega (arith, u, v, even)

  other_bit : (bit_at a bit + bit_at b bit) % 2 ≡ 1
  other_bit = sym (bit_at_xor a b bit) ∙ lowest.1

  ours : bit_at a bit ≡ 1 → (has_bit s (64 * place + bit) ≡ true) × (has_bit t (64 * place + bit) ≡ false)
  ours on =
      let off : bit_at b bit ≡ 0 = (let x = other_bit in let y = bit_at-lt b bit in omega (arith, on, x, y)) in
      (bit_of s place bit bit_small ∙ ap (λ v. nat_eq v 1) on, bit_of t place bit bit_small ∙ ap (λ v. nat_eq v 1) off)

  theirs : bit_at a bit ≢ 1 → (has_bit t (64 * place + bit) ≡ true) × (has_bit s (64 * place + bit) ≡ false)
  theirs off =
      let x = other_bit in let y = bit_at-lt b bit in let z = bit_at-lt a bit in
      let none : bit_at a bit ≡ 0 = omega (arith, off, z) in
      let on : bit_at b bit ≡ 1 = omega (arith, none, x, y) in
      (bit_of t place bit bit_small ∙ ap (λ v. nat_eq v 1) on, bit_of s place bit bit_small ∙ ap (λ v. nat_eq v 1) none)

  -- the order, where the words were read as u and v
  module _ (u v : ℕ) (ours_is : u ≡ a) (theirs_is : v ≡ b) where
    abbrev n : ℕ
    n = trailing_zeros w64 (bit_xor u v)

    same : n ≡ bit
    same = λ j. trailing_zeros w64 (bit_xor (ours_is j) (theirs_is j))

    pub shift_fits : n < 64
    shift_fits = subst (λ k. k < 64) (sym same) bit_small

    tested : bit_and (u / 2 ^ n) 1 ≡ bit_at a bit
    tested = shr_and_one u n ∙ (λ j. bit_at (ours_is j) (same j))

    pub first_less : bit_and (u / 2 ^ n) 1 ≡ 1 → HasAtomFrom t (64 * place + n) → Less ≡ compare_texts (true_atoms s) (true_atoms t)
    first_less on more =
        let o = ours (sym tested ∙ on) in
        sym (goes_before s t (64 * place + bit) o.0 o.1 agree_below (subst (λ k. HasAtomFrom t (64 * place + k)) same more))

    pub first_greater : bit_and (u / 2 ^ n) 1 ≡ 1 → HasNoneFrom t (64 * place + n) → Greater ≡ compare_texts (true_atoms s) (true_atoms t)
    first_greater on none =
        let o = ours (sym tested ∙ on) in
        sym (goes_behind s t (64 * place + bit) o.0 o.1 agree_below (subst (λ k. HasNoneFrom t (64 * place + k)) same none))

    pub second_greater : bit_and (u / 2 ^ n) 1 ≢ 1 → HasAtomFrom s (64 * place + n) → Greater ≡ compare_texts (true_atoms s) (true_atoms t)
    second_greater off more =
        let o = theirs (λ on. off (tested ∙ on)) in
        sym (turned_greater s t (goes_before t s (64 * place + bit) o.0 o.1 (λ k below. sym (agree_below k below))
        (subst (λ k. HasAtomFrom s (64 * place + k)) same more)))

    pub second_less : bit_and (u / 2 ^ n) 1 ≢ 1 → HasNoneFrom s (64 * place + n) → Less ≡ compare_texts (true_atoms s) (true_atoms t)
    second_less off none =
        let o = theirs (λ on. off (tested ∙ on)) in
        sym (turned_less s t (goes_behind t s (64 * place + bit) o.0 o.1 (λ k below. sym (agree_below k below))
        (subst (λ k. HasNoneFrom s (64 * place + k)) same none)))

-- ---- bits from one on

shifted : (w k i : ℕ) → bit_at (w / 2 ^ k) i ≡ bit_at w (k + i)
shifted w k i = ap (λ v. v % 2) (shr-shr w k i)

within_word : (w i : ℕ) → w < 2 ^ 64 → bit_at w i ≡ 1 → i < 64
within_word w i fits on = elim (cases_lt i 64) [
  | inl within ↦ within
  | inr past ↦ (let off = bit_at_above w 64 i fits past in absurd (omega (arith, on, off)))
]

-- a word with a bit from this one on
pub atom_in_word : (s : State) (place bit : ℕ) → 0 < get_or s place 0 / 2 ^ bit → get_or s place 0 < 2 ^ 64
    → HasAtomFrom s (64 * place + bit)
atom_in_word s place bit some fits =
    let w = get_or s place 0 in
    let within : place < length s = elim (cases_lt place (length s)) [
      | inl inside ↦ inside
      | inr past ↦
          let none : w ≡ 0 = get_or-eq_default s 0 past in
          let less = div-le_self w (2 ^ bit) in absurd (omega (arith, none, less, some))
    ] in
    let small : w / 2 ^ bit < 2 ^ 64 = (let less = div-le_self w (2 ^ bit) in omega (arith, less, fits)) in
    let is = bit_at-trailing_zeros w64 (w / 2 ^ bit) some small in
    let k = trailing_zeros w64 (w / 2 ^ bit) in
    let on : bit_at w (bit + k) ≡ 1 = sym (shifted w bit k) ∙ is.1 in
    let low = within_word w (bit + k) fits on in
    (64 * place + (bit + k), omega arith, omega (arith, within, low), bit_of s place (bit + k) low ∙ ap (λ v. nat_eq v 1) on)

-- a later word that is not 0
pub atom_in_later : (s : State) (place bit later : ℕ) → bit < 64 → place < later → later < length s → get_or s later 0 ≢ 0 → get_or s later 0 < 2 ^ 64
    → HasAtomFrom s (64 * place + bit)
atom_in_later s place bit later small above within some fits =
    let w = get_or s later 0 in
    let is = bit_at-trailing_zeros w64 w (omega (arith, some)) fits in
    let k = trailing_zeros w64 w in
    (64 * later + k, omega (arith, small, above), omega (arith, within, is.0), bit_of s later k is.0 ∙ ap (λ v. nat_eq v 1) is.1)

-- no bit from one on in its word, and no later word that is not 0
pub none_from : (s : State) (place bit : ℕ) → bit < 64 → get_or s place 0 / 2 ^ bit ≡ 0
    → ((k : ℕ) → place < k → k < length s → get_or s k 0 ≡ 0) → HasNoneFrom s (64 * place + bit)
none_from s place bit small none later q from = elim (cases_lt place (q / 64)) [
  | inl above ↦ ap (λ w. nat_eq (bit_at w (q % 64)) 1) (zero_word (q / 64) above) ∙ ap (λ v. nat_eq v 1) (bit_at-zero (q % 64))
  | inr there ↦
      let k : q / 64 ≡ place = omega (arith, small, from, there) in
      let high : bit ≤ q % 64 = omega (arith, from, k) in
      let split : q % 64 ≡ bit + (q % 64 - bit) = omega (arith, high) in
      ap (λ p. nat_eq (bit_at (get_or s p 0) (q % 64)) 1) k
      ∙ ap (λ v. nat_eq v 1) (ap (bit_at (get_or s place 0)) split ∙ sym (shifted (get_or s place 0) bit (q % 64 - bit))
      ∙ ap (λ w. bit_at w (q % 64 - bit)) none ∙ bit_at-zero (q % 64 - bit))
]
  where
    zero_word : (k : ℕ) → place < k → get_or s k 0 ≡ 0
    zero_word k above = elim (cases_lt k (length s)) [
      | inl within ↦ later k above within
      | inr past ↦ get_or-eq_default s 0 past
    ]
