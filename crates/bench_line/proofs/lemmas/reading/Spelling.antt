-- The bits of the line's text, and the forms that they spell.
--     line_bits n m seed     the bits of the text of n places, where m is the number of the last
--     domain_form n m seed, problem_form n m
--                            the forms of the domain and of the problem
--     line_spelled           the bits are the text
--     line_pieces            their pieces are those of both forms
--     line_good, line_depth  words stand apart, and parentheses are closed
use Rattle.std.proofs.Common.{◌≡◌, ℕ, zero, suc, ◌+◌, ◌-◌, ◌^◌, ◌<◌, Bool, true, ◌&&◌, List, [], ◌∷◌, ◌++◌, map, flat_map, decimal, codes, Some, refl, ap, sym, ◌∙◌, append_assoc, arith}
use Rattle.std.specs.List.{list_all, range_with_len}
use Rattle.std.proofs.lemmas.Bool.{and_from}
use Rattle.std.proofs.lemmas.Fmt.{decimal_digit}
use Rattle.ppddl_lex.specs.Bytes.{is_word_byte}
use Rattle.ppddl_cursor.specs.Forms.{Piece, left, right, word, Form, Forms, lone, group, more, spell, spell_all}
use Rattle.ppddl_form_grammar.specs.forms.Words.{forms}
use Rattle.plan_report.specs.Line.{tenths, numbered, place_text, action_text, line_text}
use Rattle.bench_line.proofs.lemmas.reading.Bits.{Bit, blank, feed, opening, closing, spelled, text_of, pieces_from, on_line, begins_apart, are_bits, depth}
use Rattle.bench_line.proofs.lemmas.reading.Names.{digits_are_bytes}

-- ---- bits

abbrev pub place_bits : ℕ → List Bit
place_bits i = blank ∷ opening ∷ spelled (numbered (codes "at") i) ∷ closing ∷ []

abbrev pub move_bits : ℕ → ℕ → List Bit
move_bits seed i =
    opening ∷ spelled (codes ":action") ∷ blank ∷ spelled (numbered (codes "go") i)
    ∷ blank ∷ spelled (codes ":precondition") ∷ blank ∷ opening ∷ spelled (numbered (codes "at") i) ∷ closing
    ∷ blank ∷ spelled (codes ":effect") ∷ blank ∷ opening ∷ spelled (codes "and")
    ∷ blank ∷ opening ∷ spelled (codes "decrease") ∷ blank ∷ opening ∷ spelled (codes "reward") ∷ closing ∷ blank ∷ spelled (codes "1") ∷ closing
    ∷ blank ∷ opening ∷ spelled (codes "probabilistic") ∷ blank ∷ spelled (numbered (codes "0.") (tenths seed i))
    ∷ blank ∷ opening ∷ spelled (codes "and") ∷ blank ∷ opening ∷ spelled (codes "not") ∷ blank ∷ opening ∷ spelled (numbered (codes "at") i) ∷ closing ∷ closing
    ∷ blank ∷ opening ∷ spelled (numbered (codes "at") (i + 1)) ∷ closing ∷ closing ∷ closing ∷ closing ∷ closing ∷ feed ∷ []

abbrev pub head_bits : List Bit
head_bits =
    opening ∷ spelled (codes "define") ∷ blank ∷ opening ∷ spelled (codes "domain") ∷ blank ∷ spelled (codes "line") ∷ closing ∷ feed
    ∷ opening ∷ spelled (codes ":predicates") ∷ []

abbrev pub middle_bits : List Bit
middle_bits = closing ∷ feed ∷ []

-- z is the number of the first place
abbrev pub tail_bits : List ℕ → ℕ → ℕ → List Bit
tail_bits z n m =
    closing ∷ feed ∷ opening ∷ spelled (codes "define") ∷ blank ∷ opening ∷ spelled (codes "problem") ∷ blank ∷ spelled (numbered (codes "line-") n) ∷ closing
    ∷ blank ∷ opening ∷ spelled (codes ":domain") ∷ blank ∷ spelled (codes "line") ∷ closing
    ∷ blank ∷ opening ∷ spelled (codes ":init") ∷ blank ∷ opening ∷ spelled (codes "at" ++ z) ∷ closing ∷ closing
    ∷ blank ∷ opening ∷ spelled (codes ":goal") ∷ blank ∷ opening ∷ spelled (numbered (codes "at") m) ∷ closing ∷ closing
    ∷ blank ∷ opening ∷ spelled (codes ":goal-reward") ∷ blank ∷ spelled (codes "100000") ∷ closing
    ∷ blank ∷ opening ∷ spelled (codes ":metric") ∷ blank ∷ spelled (codes "maximize") ∷ blank ∷ opening ∷ spelled (codes "reward") ∷ closing ∷ closing
    ∷ closing ∷ feed ∷ []

abbrev pub places_bits : ℕ → List Bit
places_bits n = flat_map place_bits (range_with_len 0 n)

abbrev pub moves_bits : ℕ → ℕ → List Bit
moves_bits m seed = flat_map (move_bits seed) (range_with_len 0 m)

abbrev pub line_bits : ℕ → ℕ → ℕ → List Bit
line_bits n m seed = head_bits ++ (places_bits n ++ (middle_bits ++ (moves_bits m seed ++ tail_bits (decimal 0) n m)))

-- ---- forms

abbrev pub word_at : ℕ → List ℕ → Form
word_at l w = lone w (on_line l)

abbrev pub group_at : ℕ → List Form → Form
group_at l fs = group (on_line l) (forms fs) (on_line l)

abbrev pub place_form : ℕ → ℕ → Form
place_form l i = group_at l (word_at l (numbered (codes "at") i) ∷ [])

abbrev pub cost_form : ℕ → Form
cost_form l = group_at l (word_at l (codes "decrease") ∷ group_at l (word_at l (codes "reward") ∷ []) ∷ word_at l (codes "1") ∷ [])

abbrev pub step_form : ℕ → ℕ → Form
step_form l i = group_at l (word_at l (codes "and") ∷ group_at l (word_at l (codes "not") ∷ place_form l i ∷ []) ∷ place_form l (i + 1) ∷ [])

abbrev pub chance_form : ℕ → ℕ → ℕ → Form
chance_form seed l i = group_at l (word_at l (codes "probabilistic") ∷ word_at l (numbered (codes "0.") (tenths seed i)) ∷ step_form l i ∷ [])

abbrev pub effect_form : ℕ → ℕ → ℕ → Form
effect_form seed l i = group_at l (word_at l (codes "and") ∷ cost_form l ∷ chance_form seed l i ∷ [])

abbrev pub move_form : ℕ → ℕ → ℕ → Form
move_form seed l i = group_at l (
    word_at l (codes ":action") ∷ word_at l (numbered (codes "go") i)
    ∷ word_at l (codes ":precondition") ∷ place_form l i
    ∷ word_at l (codes ":effect") ∷ effect_form seed l i ∷ [])

abbrev pub place_forms : ℕ → ℕ → Forms
place_forms a k = forms (map (place_form 2) (range_with_len a k))

abbrev pub move_forms : ℕ → ℕ → ℕ → Forms
move_forms seed a k = forms (map (λ i. move_form seed (3 + i) i) (range_with_len a k))

-- the line behind the actions
abbrev pub end_line : ℕ → ℕ
end_line m = 3 + (0 + m)

abbrev pub domain_form : ℕ → ℕ → ℕ → Form
domain_form n m seed =
    group (on_line 1) (
    more (word_at 1 (codes "define")) (more (group_at 1 (word_at 1 (codes "domain") ∷ word_at 1 (codes "line") ∷ []))
    (more (group (on_line 2) (more (word_at 2 (codes ":predicates")) (place_forms 0 n)) (on_line 2)) (move_forms seed 0 m)))
    ) (on_line (end_line m))

abbrev pub problem_at : ℕ → ℕ → ℕ → Form
problem_at l n m = group_at l (
    word_at l (codes "define") ∷ group_at l (word_at l (codes "problem") ∷ word_at l (numbered (codes "line-") n) ∷ [])
    ∷ group_at l (word_at l (codes ":domain") ∷ word_at l (codes "line") ∷ [])
    ∷ group_at l (word_at l (codes ":init") ∷ place_form l 0 ∷ [])
    ∷ group_at l (word_at l (codes ":goal") ∷ place_form l m ∷ [])
    ∷ group_at l (word_at l (codes ":goal-reward") ∷ word_at l (codes "100000") ∷ [])
    ∷ group_at l (word_at l (codes ":metric") ∷ word_at l (codes "maximize") ∷ group_at l (word_at l (codes "reward") ∷ []) ∷ [])
    ∷ [])

abbrev pub problem_form : ℕ → ℕ → Form
problem_form n m = problem_at (suc (end_line m)) n m

-- ---- the bits are the text

text_of-append : (xs ys : List Bit) → text_of (xs ++ ys) ≡ text_of xs ++ text_of ys
text_of-append [] ys = refl
text_of-append (blank ∷ xs) ys = ap (λ t. 32 ∷ t) (text_of-append xs ys)
text_of-append (feed ∷ xs) ys = ap (λ t. 10 ∷ t) (text_of-append xs ys)
text_of-append (opening ∷ xs) ys = ap (λ t. 40 ∷ t) (text_of-append xs ys)
text_of-append (closing ∷ xs) ys = ap (λ t. 41 ∷ t) (text_of-append xs ys)
text_of-append (spelled w ∷ xs) ys = ap (λ t. w ++ t) (text_of-append xs ys) ∙ sym (append_assoc w (text_of xs) (text_of ys))

all_spelled : (f : ℕ → List Bit) (g : ℕ → List ℕ) → ((i : ℕ) → text_of (f i) ≡ g i) → (xs : List ℕ) (ys : List Bit)
    → text_of (flat_map f xs ++ ys) ≡ flat_map g xs ++ text_of ys
all_spelled f g same [] ys = refl
all_spelled f g same (x ∷ xs) ys =
    ap text_of (append_assoc (f x) (flat_map f xs) ys)
    ∙ text_of-append (f x) (flat_map f xs ++ ys)
    ∙ ap (λ t. t ++ text_of (flat_map f xs ++ ys)) (same x)
    ∙ ap (λ t. g x ++ t) (all_spelled f g same xs ys)
    ∙ sym (append_assoc (g x) (flat_map g xs) (text_of ys))

six_regrouped : (a b c d e f : List ℕ) → ((((a ++ b) ++ c) ++ d) ++ e) ++ f ≡ a ++ (b ++ (c ++ (d ++ (e ++ f))))
six_regrouped a b c d e f = simp append_assoc

seven_regrouped : (a b c d e f g : List ℕ) → (((((a ++ b) ++ c) ++ d) ++ e) ++ f) ++ g ≡ a ++ (b ++ (c ++ (d ++ (e ++ (f ++ g)))))
seven_regrouped a b c d e f g = simp append_assoc

place_spelled : (i : ℕ) → text_of (place_bits i) ≡ place_text i
place_spelled i = refl

move_spelled : (seed i : ℕ) → text_of (move_bits seed i) ≡ action_text seed i
move_spelled seed i = sym (six_regrouped
    (numbered (codes "(:action go") i)
    (numbered (codes " :precondition (at") i)
    (numbered (codes ") :effect (and (decrease (reward) 1) (probabilistic 0.") (tenths seed i))
    (numbered (codes " (and (not (at") i)
    (numbered (codes ")) (at") (i + 1))
    (codes ")))))\n"))

abbrev name_text : ℕ → List ℕ
name_text n = numbered (codes ")\n(define (problem line-") n

abbrev goal_text : ℕ → List ℕ
goal_text m = numbered (codes ") (:domain line) (:init (at0)) (:goal (at") m

abbrev last_text : List ℕ
last_text = codes ")) (:goal-reward 100000) (:metric maximize (reward)))\n"

tail_spelled : (n m : ℕ) → text_of (tail_bits (decimal 0) n m) ≡ name_text n ++ (goal_text m ++ last_text)
tail_spelled n m = ap (λ z. text_of (tail_bits z n m)) (decimal_digit 0 (omega arith))

pub line_spelled : (n m seed : ℕ) → n - 1 ≡ m → text_of (line_bits n m seed) ≡ line_text n seed
line_spelled n m seed e =
    let places : List ℕ = flat_map place_text (range_with_len 0 n) in
    let moves : List ℕ = flat_map (action_text seed) (range_with_len 0 m) in
    let head : List ℕ = codes "(define (domain line)\n(:predicates" in
    let middle : List ℕ = codes ")\n" in
    ap (λ t. head ++ t) (
    all_spelled place_bits place_text place_spelled (range_with_len 0 n) (middle_bits ++ (moves_bits m seed ++ tail_bits (decimal 0) n m))
    ∙ ap (λ t. places ++ (middle ++ t)) (
    all_spelled (move_bits seed) (action_text seed) (move_spelled seed) (range_with_len 0 m) (tail_bits (decimal 0) n m)
    ∙ ap (λ t. moves ++ t) (tail_spelled n m)
    )
    )
    ∙ sym (seven_regrouped head places middle moves (name_text n) (goal_text m) last_text)
    ∙ ap (λ k. (((((head ++ places) ++ middle) ++ flat_map (action_text seed) (range_with_len 0 k)) ++ name_text n) ++ goal_text k) ++ last_text) (sym e)

-- ---- their pieces are those of the forms

places_pieces : (xs : List ℕ) (bs : List Bit) → pieces_from 2 (flat_map place_bits xs ++ bs) ≡ spell_all (forms (map (place_form 2) xs)) ++ pieces_from 2 bs
places_pieces [] bs = refl
places_pieces (x ∷ xs) bs = ap (λ ps. spell (place_form 2 x) ++ ps) (places_pieces xs bs)

moves_pieces : (seed k a : ℕ) (bs : List Bit)
    → pieces_from (3 + a) (flat_map (move_bits seed) (range_with_len a k) ++ bs) ≡ spell_all (move_forms seed a k) ++ pieces_from (3 + (a + k)) bs
moves_pieces seed zero a bs = let same : 3 + a ≡ 3 + (a + 0) = omega arith in ap (λ l. pieces_from l bs) same
moves_pieces seed (suc k) a bs =
    let next : suc (3 + a) ≡ 3 + (a + 1) = omega arith in
    let last : 3 + ((a + 1) + k) ≡ 3 + (a + suc k) = omega arith in
    ap (λ ps. spell (move_form seed (3 + a) a) ++ ps) (
    ap (λ l. pieces_from l (flat_map (move_bits seed) (range_with_len (a + 1) k) ++ bs)) next
    ∙ moves_pieces seed k (a + 1) bs
    ∙ ap (λ l. spell_all (move_forms seed (a + 1) k) ++ pieces_from l bs) last
    )

pieces_regrouped : (s m p : List Piece) (r e : Piece) → (((s ++ r ∷ []) ++ m) ++ e ∷ []) ++ p ≡ s ++ (r ∷ (m ++ (e ∷ p)))
pieces_regrouped s m p r e = simp append_assoc

abbrev head_pieces : List Piece
head_pieces =
    left (on_line 1) ∷ word (codes "define") (on_line 1) ∷ left (on_line 1) ∷ word (codes "domain") (on_line 1) ∷ word (codes "line") (on_line 1) ∷ right (on_line 1)
    ∷ left (on_line 2) ∷ word (codes ":predicates") (on_line 2) ∷ []

pub line_pieces : (n m seed : ℕ) → pieces_from 1 (line_bits n m seed) ≡ spell_all (forms (domain_form n m seed ∷ problem_form n m ∷ []))
line_pieces n m seed =
    let places : List Piece = spell_all (place_forms 0 n) in
    let moves : List Piece = spell_all (move_forms seed 0 m) in
    ap (λ ps. head_pieces ++ ps) (
    places_pieces (range_with_len 0 n) (middle_bits ++ (moves_bits m seed ++ tail_bits (decimal 0) n m))
    ∙ ap (λ ps. places ++ (right (on_line 2) ∷ ps)) (moves_pieces seed m 0 (tail_bits (decimal 0) n m))
    ∙ sym (pieces_regrouped places moves (spell (problem_form n m) ++ []) (right (on_line 2)) (right (on_line (end_line m))))
    )

-- ---- words and parentheses

places_good : (k a : ℕ) (bs : List Bit) → a + k < 2 ^ 64 → are_bits bs ≡ true → are_bits (flat_map place_bits (range_with_len a k) ++ bs) ≡ true
places_good zero a bs few good = good
places_good (suc k) a bs few good =
    and_from (list_all is_word_byte (decimal a)) (are_bits (flat_map place_bits (range_with_len (a + 1) k) ++ bs))
    (digits_are_bytes a (omega arith)) (places_good k (a + 1) bs (omega arith) good)

words_apart : (p q r s : Bool) → p ≡ true → q ≡ true → r ≡ true → s ≡ true → (p && (p && (q && (p && (r && s))))) ≡ true
words_apart p q r s hp hq hr hs =
    let three : (p && (r && s)) ≡ true = and_from p (r && s) hp (and_from r s hr hs) in
    and_from p (p && (q && (p && (r && s)))) hp (and_from p (q && (p && (r && s))) hp (and_from q (p && (r && s)) hq three))

few_tenths : (seed i : ℕ) → tenths seed i < 2 ^ 64
few_tenths seed i = omega arith

moves_good : (seed k a : ℕ) (bs : List Bit) → a + k < 2 ^ 64 → are_bits bs ≡ true → are_bits (flat_map (move_bits seed) (range_with_len a k) ++ bs) ≡ true
moves_good seed zero a bs few good = good
moves_good seed (suc k) a bs few good =
    words_apart (list_all is_word_byte (decimal a)) (list_all is_word_byte (decimal (tenths seed a))) (list_all is_word_byte (decimal (a + 1)))
    (are_bits (flat_map (move_bits seed) (range_with_len (a + 1) k) ++ bs))
    (digits_are_bytes a (omega arith)) (digits_are_bytes (tenths seed a) (few_tenths seed a)) (digits_are_bytes (a + 1) (omega arith))
    (moves_good seed k (a + 1) bs (omega arith) good)

tail_good : (n m : ℕ) → n < 2 ^ 64 → m < 2 ^ 64 → are_bits (tail_bits (decimal 0) n m) ≡ true
tail_good n m few other =
    let p : Bool = list_all is_word_byte (decimal n) in
    let q : Bool = list_all is_word_byte (decimal 0) in
    let r : Bool = list_all is_word_byte (decimal m) in
    let last : (r && true) ≡ true = and_from r true (digits_are_bytes m other) refl in
    and_from p (q && (r && true)) (digits_are_bytes n few) (and_from q (r && true) (digits_are_bytes 0 (omega arith)) last)

apart_places : (k a : ℕ) (bs : List Bit) → begins_apart bs ≡ true → begins_apart (flat_map place_bits (range_with_len a k) ++ bs) ≡ true
apart_places zero a bs h = h
apart_places (suc k) a bs h = refl

pub line_good : (n m seed : ℕ) → n < 2 ^ 64 → m < 2 ^ 64 → are_bits (line_bits n m seed) ≡ true
line_good n m seed few other =
    let bs : List Bit = middle_bits ++ (moves_bits m seed ++ tail_bits (decimal 0) n m) in
    and_from (begins_apart (places_bits n ++ bs)) (are_bits (places_bits n ++ bs)) (apart_places n 0 bs refl)
    (places_good n 0 bs (omega arith) (moves_good seed m 0 (tail_bits (decimal 0) n m) (omega arith) (tail_good n m few other)))

places_depth : (xs : List ℕ) (bs : List Bit) → depth 2 (flat_map place_bits xs ++ bs) ≡ depth 2 bs
places_depth [] bs = refl
places_depth (x ∷ xs) bs = places_depth xs bs

moves_depth : (seed : ℕ) (xs : List ℕ) (bs : List Bit) → depth 1 (flat_map (move_bits seed) xs ++ bs) ≡ depth 1 bs
moves_depth seed [] bs = refl
moves_depth seed (x ∷ xs) bs = moves_depth seed xs bs

pub line_depth : (n m seed : ℕ) → depth 0 (line_bits n m seed) ≡ Some 0
line_depth n m seed =
    places_depth (range_with_len 0 n) (middle_bits ++ (moves_bits m seed ++ tail_bits (decimal 0) n m))
    ∙ moves_depth seed (range_with_len 0 m) (tail_bits (decimal 0) n m)
