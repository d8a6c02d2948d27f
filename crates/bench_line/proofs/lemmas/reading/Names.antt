-- Names with a number behind them: they are words and names, in lower case, and another number makes another name.
--     digits_are_bytes, digits_are_names, digits_are_lower
--                          what holds of each byte of a number
--     place_is_name, move_is_name, line_is_name
--                          words with a number behind them are names, and in lower case
--     numbered-injective   one name has one number
use Rattle.std.proofs.Common.{◌≡◌, ◌≢◌, ℕ, zero, suc, ◌+◌, ◌%◌, ◌^◌, ◌<◌, ◌≤◌, ◌==◌, Bool, true, false, ◌&&◌, List, [], ◌∷◌, ◌++◌, decimal, refl, ap, sym, subst, ◌∙◌, arith, codes}
use Rattle.std.specs.Char.{to_ascii_lowercase}
use Rattle.std.specs.List.{list_all, range_with_len}
use Rattle.std.proofs.lemmas.Bool.{and_parts, eqb-true, eqb-false}
use Rattle.std.proofs.lemmas.Fmt.{decimal_by_steps, decimal_injective}
use Rattle.ppddl_lex.specs.Bytes.{is_word_byte}
use Rattle.ppddl_lex.specs.Words.{lowered, is_name_byte, is_name}
use Rattle.plan_report.specs.Line.{numbered}

-- ---- tests of a range

in_range : (p : ℕ → Bool) (n a : ℕ) → list_all p (range_with_len a n) ≡ true → (d : ℕ) → a ≤ d → d < a + n → p d ≡ true
in_range p zero a h d low high = absurd (omega arith)
in_range p (suc n) a h d low high =
    let parts = and_parts (p a) (list_all p (range_with_len (a + 1) n)) h in
    (elim (d == a) as (λ v. (d == a) ≡ v → p d ≡ true) [
      | true ↦ λ e. subst (λ k. p k ≡ true) (sym (eqb-true d a e)) parts.0
      | false ↦ λ e. let other : d ≢ a = eqb-false d a e in in_range p n (a + 1) parts.1 d (omega arith) (omega arith)
    ]) refl

-- ---- digits

record IsDigit (d : ℕ) : Type 0 where
  least : 48 ≤ d
  most : d ≤ 57

abbrev AreDigits : List ℕ → Type 0
AreDigits [] = Unit {0}
AreDigits (d ∷ ds) = IsDigit d × AreDigits ds

one_digit_more : (ds : List ℕ) (d : ℕ) → AreDigits ds → IsDigit d → AreDigits (ds ++ d ∷ [])
one_digit_more [] d h last = (last, tt)
one_digit_more (c ∷ ds) d h last = (h.0, one_digit_more ds d h.1 last)

first_digit : (n : ℕ) → n < 10 → IsDigit (48 + n)
first_digit n small = record { least = omega arith; most = omega arith }

last_digit : (n : ℕ) → IsDigit (48 + n % 10)
last_digit n = record { least = omega arith; most = omega arith }

decimal_digits : (n : ℕ) → n < 2 ^ 64 → AreDigits (decimal n)
decimal_digits n small = decimal_by_steps (λ k ds. AreDigits ds) (λ k h. (first_digit k h, tt)) (λ k ds low h. one_digit_more ds (48 + k % 10) h (last_digit k)) n small

abbrev is_lower_byte : ℕ → Bool
is_lower_byte d = to_ascii_lowercase d == d

-- a test that each digit passes
all_pass : (p : ℕ → Bool) → list_all p (range_with_len 48 10) ≡ true → (ds : List ℕ) → AreDigits ds → list_all p ds ≡ true
all_pass p h [] are = refl
all_pass p h (d ∷ ds) are =
    let passes : p d ≡ true = in_range p 10 48 h d are.0.least (omega (arith, are.0.most)) in
    ap (λ v. v && list_all p ds) passes ∙ all_pass p h ds are.1

all_lower : (ds : List ℕ) → list_all is_lower_byte ds ≡ true → lowered ds ≡ ds
all_lower [] h = refl
all_lower (d ∷ ds) h =
    let parts = and_parts (is_lower_byte d) (list_all is_lower_byte ds) h in
    let first : to_ascii_lowercase d ≡ d = eqb-true (to_ascii_lowercase d) d parts.0 in
    let others : lowered ds ≡ ds = all_lower ds parts.1 in
    cc

pub digits_are_bytes : (n : ℕ) → n < 2 ^ 64 → list_all is_word_byte (decimal n) ≡ true
digits_are_bytes n small = all_pass is_word_byte refl (decimal n) (decimal_digits n small)

pub digits_are_names : (n : ℕ) → n < 2 ^ 64 → list_all is_name_byte (decimal n) ≡ true
digits_are_names n small = all_pass is_name_byte refl (decimal n) (decimal_digits n small)

pub digits_are_lower : (n : ℕ) → n < 2 ^ 64 → lowered (decimal n) ≡ decimal n
digits_are_lower n small = all_lower (decimal n) (all_pass is_lower_byte refl (decimal n) (decimal_digits n small))

-- ---- names

pub place_is_name : (n : ℕ) → n < 2 ^ 64 → is_name (numbered (codes "at") n) ≡ true
place_is_name n small = ap (λ v. v && true) (digits_are_names n small)

pub move_is_name : (n : ℕ) → n < 2 ^ 64 → is_name (numbered (codes "go") n) ≡ true
move_is_name n small = ap (λ v. v && true) (digits_are_names n small)

pub line_is_name : (n : ℕ) → n < 2 ^ 64 → is_name (numbered (codes "line-") n) ≡ true
line_is_name n small = ap (λ v. v && true) (digits_are_names n small)

pub place_is_lower : (n : ℕ) → n < 2 ^ 64 → lowered (numbered (codes "at") n) ≡ numbered (codes "at") n
place_is_lower n small = ap (λ ds. codes "at" ++ ds) (digits_are_lower n small)

pub move_is_lower : (n : ℕ) → n < 2 ^ 64 → lowered (numbered (codes "go") n) ≡ numbered (codes "go") n
move_is_lower n small = ap (λ ds. codes "go" ++ ds) (digits_are_lower n small)

pub line_is_lower : (n : ℕ) → n < 2 ^ 64 → lowered (numbered (codes "line-") n) ≡ numbered (codes "line-") n
line_is_lower n small = ap (λ ds. codes "line-" ++ ds) (digits_are_lower n small)

same_behind : (w v u : List ℕ) → w ++ v ≡ w ++ u → v ≡ u
same_behind [] v u e = e
same_behind (b ∷ w) v u e = let rest : w ++ v ≡ w ++ u = cc in same_behind w v u rest

pub numbered-injective : (w : List ℕ) (i j : ℕ) → i < 2 ^ 64 → j < 2 ^ 64 → numbered w i ≡ numbered w j → i ≡ j
numbered-injective w i j small other e = decimal_injective i j small other (same_behind w (decimal i) (decimal j) e)
