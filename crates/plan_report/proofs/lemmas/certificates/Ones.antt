-- As many atoms hold in a state as its words have ones.
use Rattle.std.proofs.Common.{◌≡◌, ℕ, suc, zero, ◌+◌, ◌-◌, ◌/◌, ◌%◌, ◌<◌, ◌^◌, cond, List, [], ◌∷◌, length, filter, nat_eq, sym, ap, ◌∙◌, arith}
use Rattle.std.specs.Prelude.{get_or, count_ones}
use Rattle.std.specs.List.{range_with_len, sum_by}
use Rattle.std.specs.Int.{bit_at}
use Rattle.std.proofs.lemmas.List.{length-append}
use Rattle.std.proofs.lemmas.List.Sums.{sum_by-cons}
use Rattle.std.proofs.lemmas.Nat.{ones-le}
use Rattle.std.proofs.lemmas.Nat.Bits.{bit_at_lowest, bit_at-suc}
use lib.Count.{ones_step}
use Rattle.ground_model.specs.Packed.{State}
use Rattle.ground_step.specs.Atoms.{true_atoms, word_atoms, words_atoms}
use Rattle.ground_step.proofs.Ranges.{filter_alike, words_atoms-true, words_atoms-cons, words_atoms-nil}

first_adds : (bit q : ℕ) (qs : List ℕ) → bit < 2 → length (cond (nat_eq bit 1) (q ∷ qs) qs) ≡ bit + length qs
first_adds zero q qs below = omega arith
first_adds (suc zero) q qs below = omega arith
first_adds (suc (suc bit)) q qs below = absurd (omega arith)

ones_of_bits : (base n word : ℕ) → word < 2 ^ n
    → length (filter (λ q. nat_eq (bit_at word (q - base)) 1) (range_with_len base n)) ≡ count_ones word
ones_of_bits base zero word fits = omega (arith, ones-le 0 word fits)
ones_of_bits base (suc n) word fits =
    let others = filter (λ q. nat_eq (bit_at word (q - base)) 1) (range_with_len (base + 1) n) in
    let here : base - base ≡ 0 = omega arith in
    let lowest : bit_at word (base - base) ≡ word % 2 = ap (bit_at word) here ∙ bit_at_lowest word in
    let rest : length others ≡ count_ones (word / 2) =
    ap length (filter_alike (λ q. nat_eq (bit_at word (q - base)) 1) (λ q. nat_eq (bit_at (word / 2) (q - (base + 1))) 1) (base + 1) n
    (λ q above below.
    let next : q - base ≡ suc (q - (base + 1)) = omega arith in
    ap (λ b. nat_eq b 1) (ap (bit_at word) next ∙ bit_at-suc word (q - (base + 1)))))
    ∙ ones_of_bits (base + 1) n (word / 2) (omega arith) in
    ap (λ b. length (cond (nat_eq b 1) (base ∷ others) others)) lowest
    ∙ first_adds (word % 2) base others (omega arith)
    ∙ ap (λ k. word % 2 + k) rest
    ∙ sym (ones_step word)

ones_of_words : (base : ℕ) (words : State) → ((i : ℕ) → get_or words i 0 < 2 ^ 64) → length (words_atoms base words) ≡ sum_by count_ones words
unfolding word_atoms
ones_of_words base [] fit = ap length (words_atoms-nil base)
ones_of_words base (word ∷ words) fit =
    ap length (words_atoms-cons base word words)
    ∙ length-append (word_atoms base word) (words_atoms (base + 64) words)
    ∙ (λ i. ones_of_bits base 64 word (fit 0) i + ones_of_words (base + 64) words (λ k. fit (suc k)) i)
    ∙ sym (sum_by-cons count_ones word words)

pub ones_of_state : (s : State) → ((i : ℕ) → get_or s i 0 < 2 ^ 64) → length (true_atoms s) ≡ sum_by count_ones s
ones_of_state s fit = ap length (sym (words_atoms-true s)) ∙ ones_of_words 0 s fit
