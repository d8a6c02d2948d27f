-- Tests of words with one more literal, and lists of tests.
use Rattle.std.proofs.Common.{◌≡◌, ℕ, suc, zero, ◌/◌, ◌%◌, ◌<◌, Bool, true, false, not, ◌&&◌, List, [], ◌∷◌, ◌++◌, length, refl, ap, ◌∙◌, arith, get_or}
use Rattle.std.specs.Prelude.{nat_eq, bit_and, slice_set}
use Rattle.std.specs.List.{list_all}
use Rattle.std.specs.Int.{bit_at}
use Rattle.std.specs.Int.Bits.{and_zero_r}
use Rattle.ground_model.specs.Packed.{State, has_bit}
use Rattle.applicable_actions.specs.declared.word_test.WordTest.{WordTest}
use Rattle.applicable_actions.specs.Masks.{passes, pass_all, with_literal, has_literal, AddsLiteral}
use Rattle.applicable_actions.proofs.Bits.{none_with_bit, all_with_bit}

turn : (a b c : Bool) → ((a && c) && b) ≡ ((a && b) && c)
turn true true true = refl
turn true true false = refl
turn true false true = refl
turn true false false = refl
turn false b c = refl

join : (a b c : Bool) → (a && (b && c)) ≡ ((a && b) && c)
join true b c = refl
join false b c = refl

abbrev word_of : WordTest → State → ℕ
word_of t s = get_or s t.place 0

pub passes-with_literal : (t : WordTest) (a : ℕ) (is_true : Bool) (s : State) → t.place ≡ a / 64
    → passes (with_literal t a is_true) s ≡ (passes t s && has_literal s a is_true)
passes-with_literal t a true s here =
    ap (λ b. b && nat_eq (bit_and (word_of t s) t.excluded) 0)
    (all_with_bit (word_of t s) t.required (a % 64) (omega arith)
    ∙ ap (λ k. nat_eq (bit_and (word_of t s) t.required) t.required && nat_eq (bit_at (get_or s k 0) (a % 64)) 1) here)
    ∙ turn (nat_eq (bit_and (word_of t s) t.required) t.required) (nat_eq (bit_and (word_of t s) t.excluded) 0) (has_bit s a)
passes-with_literal t a false s here =
    ap (λ b. nat_eq (bit_and (word_of t s) t.required) t.required && b)
    (none_with_bit (word_of t s) t.excluded (a % 64) (omega arith)
    ∙ ap (λ k. nat_eq (bit_and (word_of t s) t.excluded) 0 && not (nat_eq (bit_at (get_or s k 0) (a % 64)) 1)) here)
    ∙ join (nat_eq (bit_and (word_of t s) t.required) t.required) (nat_eq (bit_and (word_of t s) t.excluded) 0) (not (has_bit s a))

-- a test in the list that passes exactly where the old one does and b holds
all-set : {X : Type 0} (p : X → Bool) (b : Bool) (xs : List X) (k : ℕ) (x old : X) → k < length xs → old ≡ get_or xs k old
    → p x ≡ (p old && b) → list_all p (slice_set xs k x) ≡ (list_all p xs && b)
all-set p b [] k x old within read same = absurd (omega arith)
all-set p b (y ∷ ys) zero x old within read same =
    ap (λ c. c && list_all p ys) (same ∙ ap (λ o. p o && b) read) ∙ turn (p y) (list_all p ys) b
all-set p b (y ∷ ys) (suc k) x old within read same =
    ap (λ c. p y && c) (all-set p b ys k x old (omega arith) read same) ∙ join (p y) (list_all p ys) b

pub set_adds : (tests : List WordTest) (k a : ℕ) (is_true : Bool) (old : WordTest) → k < length tests → old ≡ get_or tests k old
    → old.place ≡ a / 64 → AddsLiteral tests a is_true (slice_set tests k (with_literal old a is_true))
set_adds tests k a is_true old within read here s =
    all-set (λ t. passes t s) (has_literal s a is_true) tests k (with_literal old a is_true) old within read
    (passes-with_literal old a is_true s here)

last : (b : Bool) → (b && true) ≡ (true && b)
last true = refl
last false = refl

pub all-push : {X : Type 0} (p : X → Bool) (xs : List X) (x : X) → list_all p (xs ++ x ∷ []) ≡ (list_all p xs && p x)
all-push p [] x = last (p x)
all-push p (y ∷ ys) x = ap (λ b. p y && b) (all-push p ys x) ∙ join (p y) (list_all p ys) (p x)

fresh_passes : (place : ℕ) (s : State) → passes (record { place = place; required = 0; excluded = 0 }) s ≡ true
fresh_passes place s =
    let none : bit_and (get_or s place 0) 0 ≡ 0 = and_zero_r (get_or s place 0) in
    ap (λ n. nat_eq n 0 && nat_eq n 0) none

pub push_adds : (tests : List WordTest) (a : ℕ) (is_true : Bool)
    → AddsLiteral tests a is_true (tests ++ with_literal (record { place = a / 64; required = 0; excluded = 0 }) a is_true ∷ [])
push_adds tests a is_true s =
    let fresh : WordTest = record { place = a / 64; required = 0; excluded = 0 } in
    all-push (λ t. passes t s) tests (with_literal fresh a is_true)
    ∙ ap (λ b. pass_all tests s && b)
    (passes-with_literal fresh a is_true s refl ∙ ap (λ b. b && has_literal s a is_true) (fresh_passes (a / 64) s))
