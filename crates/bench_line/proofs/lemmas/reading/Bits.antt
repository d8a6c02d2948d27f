-- A text as bits: blanks, ends of lines, parentheses and words. Its tokens, their pieces and their depth are those of its bits.
--     text_of bs            the bytes of the bits
--     tokens n line bs      their tokens, from this offset and this line on
--     pieces_from line bs   the pieces of these tokens
--     are_bits bs           each word is a word, and no word stands right behind another
--     depth n bs            how many parentheses are open behind the bits, where n are open before them and never more than 100
--     are_tokens            the tokens of the text are those of its bits
use Rattle.std.proofs.Common.{◌≡◌, ℕ, zero, suc, ◌+◌, ◌-◌, ◌≤◌, ◌==◌, nat_lt, Bool, true, false, ◌&&◌, cond, List, [], ◌∷◌, ◌++◌, length, take, drop, slice_range, Option, Some, None, Result, Ok, Err, refl, ap, sym, subst, ◌∙◌, arith, rules, tests}
use Rattle.std.specs.List.{list_all}
use Rattle.std.proofs.lemmas.Bool.{and_parts, ne_eqb}
use Rattle.std.proofs.lemmas.List.{take_at}
use Rattle.ppddl_lex.specs.declared.token.Token.{Token}
use Rattle.ppddl_lex.specs.declared.token_kind.TokenKind.{TokenKind}
use Rattle.ppddl_lex.specs.declared.token_kind.TokenKind.TheVariants as kind
use Rattle.ppddl_lex.specs.declared.bytes.ByteClass.{ByteClass}
use Rattle.ppddl_lex.specs.declared.bytes.ByteClass.TheVariants as byte
use Rattle.ppddl_lex.specs.declared.refusal.LexRefusal.{LexRefusal}
use Rattle.ppddl_lex.specs.declared.refusal.LexRefusal.TheVariants.{TooDeep}
use Rattle.ppddl_lex.specs.Bytes.{class_of, is_word_class, is_word_byte}
use Rattle.ppddl_lex.specs.Lexemes.{Lexeme, tokens_from, put_word_byte, single, token_of, nested, with_front, last_line, tokens_of}
use Rattle.ppddl_cursor.specs.declared.place.Place.{Place}
use Rattle.ppddl_cursor.specs.Forms.{Piece, left, right, word}
use Rattle.ppddl_cursor.specs.Pieces.{pieces}
use Rattle.ppddl_grammar.specs.texts.Texts.{AreTokens, of_one}

pub data Bit : Type 0 where
  blank : Bit
  feed : Bit
  opening : Bit
  closing : Bit
  spelled : List ℕ → Bit

abbrev pub text_of : List Bit → List ℕ
text_of [] = []
text_of (blank ∷ bs) = 32 ∷ text_of bs
text_of (feed ∷ bs) = 10 ∷ text_of bs
text_of (opening ∷ bs) = 40 ∷ text_of bs
text_of (closing ∷ bs) = 41 ∷ text_of bs
text_of (spelled w ∷ bs) = w ++ text_of bs

abbrev pub tokens : ℕ → ℕ → List Bit → List Token
tokens offset line [] = []
tokens offset line (blank ∷ bs) = tokens (suc offset) line bs
tokens offset line (feed ∷ bs) = tokens (suc offset) (suc line) bs
tokens offset line (opening ∷ bs) = single kind.Left offset line ∷ tokens (suc offset) line bs
tokens offset line (closing ∷ bs) = single kind.Right offset line ∷ tokens (suc offset) line bs
tokens offset line (spelled w ∷ bs) = token_of kind.Word offset (offset + length w) line ∷ tokens (offset + length w) line bs

-- a place in the first text
abbrev pub on_line : ℕ → Place
on_line line = record { file = 1; line = line }

abbrev pub pieces_from : ℕ → List Bit → List Piece
pieces_from line [] = []
pieces_from line (blank ∷ bs) = pieces_from line bs
pieces_from line (feed ∷ bs) = pieces_from (suc line) bs
pieces_from line (opening ∷ bs) = left (on_line line) ∷ pieces_from line bs
pieces_from line (closing ∷ bs) = right (on_line line) ∷ pieces_from line bs
pieces_from line (spelled w ∷ bs) = word w (on_line line) ∷ pieces_from line bs

abbrev pub is_word : List ℕ → Bool
is_word [] = false
is_word (b ∷ w) = is_word_byte b && list_all is_word_byte w

abbrev pub begins_apart : List Bit → Bool
begins_apart [] = true
begins_apart (blank ∷ bs) = true
begins_apart (feed ∷ bs) = true
begins_apart (opening ∷ bs) = true
begins_apart (closing ∷ bs) = true
begins_apart (spelled w ∷ bs) = false

abbrev pub are_bits : List Bit → Bool
are_bits [] = true
are_bits (blank ∷ bs) = are_bits bs
are_bits (feed ∷ bs) = are_bits bs
are_bits (opening ∷ bs) = are_bits bs
are_bits (closing ∷ bs) = are_bits bs
are_bits (spelled w ∷ bs) = is_word w && (begins_apart bs && are_bits bs)

abbrev pub depth : ℕ → List Bit → Option ℕ
depth n [] = Some n
depth n (blank ∷ bs) = depth n bs
depth n (feed ∷ bs) = depth n bs
depth n (opening ∷ bs) = cond (nat_lt 100 (suc n)) None (depth (suc n) bs)
depth n (closing ∷ bs) = elim n [ zero ↦ None | suc m ↦ cond (nat_lt 100 m) None (depth m bs) ]
depth n (spelled w ∷ bs) = cond (nat_lt 100 n) None (depth n bs)

-- ---- tokens

abbrev lexemes : List Token → List Lexeme
lexemes [] = []
lexemes (t ∷ ts) = Ok t ∷ lexemes ts

-- the first token begins at this offset or behind it
abbrev StartsBehind : ℕ → List Token → Type 0
StartsBehind n [] = Unit {0}
StartsBehind n (t ∷ ts) = n ≤ t.from

behind_less : (n : ℕ) (ts : List Token) → StartsBehind (suc n) ts → StartsBehind n ts
behind_less n [] h = tt
behind_less n (t ∷ ts) h = omega arith

starts_behind : (offset line : ℕ) (bs : List Bit) → StartsBehind offset (tokens offset line bs)
starts_behind offset line [] = tt
starts_behind offset line (blank ∷ bs) = behind_less offset (tokens (suc offset) line bs) (starts_behind (suc offset) line bs)
starts_behind offset line (feed ∷ bs) = behind_less offset (tokens (suc offset) (suc line) bs) (starts_behind (suc offset) (suc line) bs)
starts_behind offset line (opening ∷ bs) = omega arith
starts_behind offset line (closing ∷ bs) = omega arith
starts_behind offset line (spelled w ∷ bs) = omega arith

-- a byte of words before a token of this kind
abbrev put_before : ℕ → ℕ → Token → List Lexeme → TokenKind → List Lexeme
put_before offset line t ls k = elim k [
  | kind.Word ↦ elim (t.from == suc offset) [
    | true ↦ Ok (record t { from = offset }) ∷ ls
    | false ↦ Ok (single kind.Word offset line) ∷ Ok t ∷ ls
  ]
  | kind.Left ↦ Ok (single kind.Word offset line) ∷ Ok t ∷ ls
  | kind.Right ↦ Ok (single kind.Word offset line) ∷ Ok t ∷ ls
]

apart : (offset line : ℕ) (t : Token) (ls : List Lexeme) (k : TokenKind) → suc (suc offset) ≤ t.from → put_before offset line t ls k ≡ Ok (single kind.Word offset line) ∷ Ok t ∷ ls
apart offset line t ls kind.Left h = refl
apart offset line t ls kind.Right h = refl
apart offset line t ls kind.Word h = let other : (t.from == suc offset) ≡ false = ne_eqb t.from (suc offset) (λ e. omega arith) in rw (other, put_before) refl

all_apart : (offset line : ℕ) (ts : List Token) → StartsBehind (suc (suc offset)) ts → put_word_byte offset line (lexemes ts) ≡ Ok (single kind.Word offset line) ∷ lexemes ts
all_apart offset line [] h = refl
all_apart offset line (t ∷ ts) h = apart offset line t (lexemes ts) t.kind h

-- a byte of words before bits that begin with no word is a word by itself
alone : (offset line : ℕ) (bs : List Bit) → begins_apart bs ≡ true
    → put_word_byte offset line (lexemes (tokens (suc offset) line bs)) ≡ Ok (single kind.Word offset line) ∷ lexemes (tokens (suc offset) line bs)
alone offset line [] h = refl
alone offset line (blank ∷ bs) h = all_apart offset line (tokens (suc (suc offset)) line bs) (starts_behind (suc (suc offset)) line bs)
alone offset line (feed ∷ bs) h = all_apart offset line (tokens (suc (suc offset)) (suc line) bs) (starts_behind (suc (suc offset)) (suc line) bs)
alone offset line (opening ∷ bs) h = refl
alone offset line (closing ∷ bs) h = refl
alone offset line (spelled w ∷ bs) h = absurd (cc)

-- and before the rest of a word it lengthens it
longer : (offset to line : ℕ) (ls : List Lexeme) → put_word_byte offset line (Ok (token_of kind.Word (suc offset) to line) ∷ ls) ≡ Ok (token_of kind.Word offset to line) ∷ ls
longer offset to line ls = let same : (suc offset == suc offset) ≡ true = search (tests, rules) in rw (same, put_word_byte) refl

word_class : (k : ByteClass) → is_word_class k ≡ true → k ≡ byte.Word
word_class byte.LineFeed e = absurd (cc)
word_class byte.Blank e = absurd (cc)
word_class byte.Semicolon e = absurd (cc)
word_class byte.Left e = absurd (cc)
word_class byte.Right e = absurd (cc)
word_class byte.Word e = refl
word_class byte.Bad e = absurd (cc)

at_word_byte : (offset line b : ℕ) (bs : List ℕ) → is_word_byte b ≡ true → tokens_from offset line (b ∷ bs) ≡ put_word_byte offset line (tokens_from (suc offset) line bs)
at_word_byte offset line b bs e = let is : class_of b ≡ byte.Word = word_class (class_of b) e in rw (is, tokens_from) refl

word_read : (offset line b : ℕ) (w : List ℕ) (bs : List Bit) → is_word_byte b ≡ true → list_all is_word_byte w ≡ true → begins_apart bs ≡ true
    → ((k : ℕ) → tokens_from k line (text_of bs) ≡ lexemes (tokens k line bs))
    → tokens_from offset line (b ∷ (w ++ text_of bs)) ≡ Ok (token_of kind.Word offset (offset + suc (length w)) line) ∷ lexemes (tokens (offset + suc (length w)) line bs)
word_read offset line b [] bs first others ends rest =
    let next : suc offset ≡ offset + 1 = omega arith in
    at_word_byte offset line b (text_of bs) first
    ∙ ap (put_word_byte offset line) (rest (suc offset))
    ∙ alone offset line bs ends
    ∙ ap (λ k. Ok (token_of kind.Word offset k line) ∷ lexemes (tokens k line bs)) next
word_read offset line b (c ∷ w) bs first others ends rest =
    let parts = and_parts (is_word_byte c) (list_all is_word_byte w) others in
    let to : ℕ = suc offset + suc (length w) in
    let next : suc offset + suc (length w) ≡ offset + suc (suc (length w)) = omega arith in
    at_word_byte offset line b (c ∷ (w ++ text_of bs)) first
    ∙ ap (put_word_byte offset line) (word_read (suc offset) line c w bs parts.0 parts.1 ends rest)
    ∙ longer offset to line (lexemes (tokens to line bs))
    ∙ ap (λ k. Ok (token_of kind.Word offset k line) ∷ lexemes (tokens k line bs)) next

read : (offset line : ℕ) (bs : List Bit) → are_bits bs ≡ true → tokens_from offset line (text_of bs) ≡ lexemes (tokens offset line bs)
read offset line [] h = refl
read offset line (blank ∷ bs) h = read (suc offset) line bs h
read offset line (feed ∷ bs) h = read (suc offset) (suc line) bs h
read offset line (opening ∷ bs) h = ap (λ ls. Ok (single kind.Left offset line) ∷ ls) (read (suc offset) line bs h)
read offset line (closing ∷ bs) h = ap (λ ls. Ok (single kind.Right offset line) ∷ ls) (read (suc offset) line bs h)
read offset line (spelled [] ∷ bs) h = absurd (cc)
read offset line (spelled (b ∷ w) ∷ bs) h =
    let parts = and_parts (is_word (b ∷ w)) (begins_apart bs && are_bits bs) h in
    let bytes = and_parts (is_word_byte b) (list_all is_word_byte w) parts.0 in
    let others = and_parts (begins_apart bs) (are_bits bs) parts.1 in
    word_read offset line b w bs bytes.0 bytes.1 others.0 (λ k. read k line bs others.1)

-- ---- their pieces

one_behind : (text : List ℕ) (offset b : ℕ) (rest : List ℕ) → drop offset text ≡ b ∷ rest → drop (suc offset) text ≡ rest
one_behind text zero b rest e = ap (drop 1) e
one_behind [] (suc k) b rest e = absurd (cc)
one_behind (x ∷ text) (suc k) b rest e = one_behind text k b rest e

word_behind : (text : List ℕ) (offset : ℕ) (w rest : List ℕ) → drop offset text ≡ w ++ rest → drop (offset + length w) text ≡ rest
word_behind text offset [] rest e = let same : offset ≡ offset + 0 = omega arith in subst (λ k. drop k text ≡ rest) same e
word_behind text offset (b ∷ w) rest e =
    let next : suc offset + length w ≡ offset + suc (length w) = omega arith in
    subst (λ k. drop k text ≡ rest) next (word_behind text (suc offset) w rest (one_behind text offset b (w ++ rest) e))

word_sliced : (text : List ℕ) (offset : ℕ) (w rest : List ℕ) → drop offset text ≡ w ++ rest → slice_range text offset (offset + length w) ≡ w
word_sliced text offset w rest e =
    let long : offset + length w - offset ≡ length w = omega arith in
    ap (λ k. take k (drop offset text)) long ∙ ap (take (length w)) e ∙ take_at w rest (length w) refl

pieces_read : (text : List ℕ) (offset line : ℕ) (bs : List Bit) → drop offset text ≡ text_of bs → pieces text 1 (tokens offset line bs) ≡ pieces_from line bs
pieces_read text offset line [] e = refl
pieces_read text offset line (blank ∷ bs) e = pieces_read text (suc offset) line bs (one_behind text offset 32 (text_of bs) e)
pieces_read text offset line (feed ∷ bs) e = pieces_read text (suc offset) (suc line) bs (one_behind text offset 10 (text_of bs) e)
pieces_read text offset line (opening ∷ bs) e = ap (λ ps. left (on_line line) ∷ ps) (pieces_read text (suc offset) line bs (one_behind text offset 40 (text_of bs) e))
pieces_read text offset line (closing ∷ bs) e = ap (λ ps. right (on_line line) ∷ ps) (pieces_read text (suc offset) line bs (one_behind text offset 41 (text_of bs) e))
pieces_read text offset line (spelled w ∷ bs) e =
    ap (λ v. word v (on_line line) ∷ pieces text 1 (tokens (offset + length w) line bs)) (word_sliced text offset w (text_of bs) e)
    ∙ ap (λ ps. word w (on_line line) ∷ ps) (pieces_read text (offset + length w) line bs (word_behind text offset w (text_of bs) e))

-- ---- their depth

abbrev within : ℕ → ℕ → Bool → Result ℕ LexRefusal
within line m v = cond v (Err (TooDeep line)) (Ok m)

passes : (last line m : ℕ) (t : Token) (ls : List Lexeme) (ts : List Token) (d : Option ℕ) (v : Bool)
    → cond v None d ≡ Some 0 → (d ≡ Some 0 → nested last m ls ≡ Ok ts)
    → ◌≡◌ {A = Result (List Token) LexRefusal} (elim (within line m v) [ Err e ↦ Err e | Ok k ↦ with_front (t ∷ []) (nested last k ls) ]) (Ok (t ∷ ts))
passes last line m t ls ts d true h f = absurd (cc)
passes last line m t ls ts d false h f = ap (with_front (t ∷ [])) (f h)

nests : (last n offset line : ℕ) (bs : List Bit) → depth n bs ≡ Some 0 → nested last n (lexemes (tokens offset line bs)) ≡ Ok (tokens offset line bs)
nests last n offset line [] h = let none : 0 ≡ n = cc in subst (λ k. nested last k [] ≡ Ok []) none refl
nests last n offset line (blank ∷ bs) h = nests last n (suc offset) line bs h
nests last n offset line (feed ∷ bs) h = nests last n (suc offset) (suc line) bs h
nests last n offset line (opening ∷ bs) h =
    passes last line (suc n) (single kind.Left offset line) (lexemes (tokens (suc offset) line bs)) (tokens (suc offset) line bs)
    (depth (suc n) bs) (nat_lt 100 (suc n)) h (nests last (suc n) (suc offset) line bs)
nests last zero offset line (closing ∷ bs) h = absurd (cc)
nests last (suc m) offset line (closing ∷ bs) h =
    passes last line m (single kind.Right offset line) (lexemes (tokens (suc offset) line bs)) (tokens (suc offset) line bs)
    (depth m bs) (nat_lt 100 m) h (nests last m (suc offset) line bs)
nests last n offset line (spelled w ∷ bs) h =
    passes last line n (token_of kind.Word offset (offset + length w) line) (lexemes (tokens (offset + length w) line bs)) (tokens (offset + length w) line bs)
    (depth n bs) (nat_lt 100 n) h (nests last n (offset + length w) line bs)

-- ---- the whole text

given : (bs : List Bit) → are_bits bs ≡ true → depth 0 bs ≡ Some 0 → tokens_of (text_of bs) ≡ Ok (tokens 0 1 bs)
given bs good closed = ap (nested (last_line (text_of bs)) 0) (read 0 1 bs good) ∙ nests (last_line (text_of bs)) 0 0 1 bs closed

pub are_tokens : (bs : List Bit) → are_bits bs ≡ true → depth 0 bs ≡ Some 0 → AreTokens (text_of bs) None (pieces_from 1 bs)
are_tokens bs good closed = of_one {ts = tokens 0 1 bs} (given bs good closed) (sym (pieces_read (text_of bs) 0 1 bs refl))
