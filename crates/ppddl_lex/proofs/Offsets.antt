-- The tokens of a text from an offset on, by the byte that stands there.
use Rattle.std.proofs.Common.{◌≡◌, ℕ, suc, ◌+◌, ◌<◌, ◌≤◌, ◌==◌, Bool, false, List, [], ◌∷◌, length, drop, take_while, get_or, Ok, Err, refl, ap, sym, ◌∙◌, arith, add-one}
use Rattle.std.proofs.lemmas.List.{at_drop_more, drop_more, drop-drop, length-drop}
use Rattle.ppddl_lex.specs.declared.token_kind.TokenKind.TheVariants as kind
use Rattle.ppddl_lex.specs.declared.bytes.ByteClass.TheVariants as byte
use Rattle.ppddl_lex.specs.declared.refusal.LexRefusal.TheVariants.{BadByte}
use Rattle.ppddl_lex.specs.Bytes.{class_of, is_word_byte, continues_comment}
use Rattle.ppddl_lex.specs.Lexemes.{tokens_from, tokens_at, token_of}
use Rattle.ppddl_lex.proofs.Steps.{after_semicolon, at_left, at_right, at_bad, feed_class, feed-class}
use Rattle.ppddl_lex.proofs.Runs.{front_len, front_len-le, length-take_while, word_run, comment_run}

pub left_at : (text : List ℕ) (offset line : ℕ) → offset < length text → class_of (get_or text offset 0) ≡ byte.Left
    → tokens_at text offset line ≡ Ok (token_of kind.Left offset (offset + 1) line) ∷ tokens_at text (offset + 1) line
left_at text offset line within e =
    at_drop_more (tokens_from offset line) text offset 0 within ∙ at_left offset line (get_or text offset 0) (drop (offset + 1) text) e
    ∙ ap (λ k. Ok (token_of kind.Left offset k line) ∷ tokens_from k line (drop (offset + 1) text)) (sym (add-one offset))

pub right_at : (text : List ℕ) (offset line : ℕ) → offset < length text → class_of (get_or text offset 0) ≡ byte.Right
    → tokens_at text offset line ≡ Ok (token_of kind.Right offset (offset + 1) line) ∷ tokens_at text (offset + 1) line
right_at text offset line within e =
    at_drop_more (tokens_from offset line) text offset 0 within ∙ at_right offset line (get_or text offset 0) (drop (offset + 1) text) e
    ∙ ap (λ k. Ok (token_of kind.Right offset k line) ∷ tokens_from k line (drop (offset + 1) text)) (sym (add-one offset))

pub bad_at : (text : List ℕ) (offset line : ℕ) → offset < length text → class_of (get_or text offset 0) ≡ byte.Bad
    → tokens_at text offset line ≡ Err (BadByte line) ∷ []
bad_at text offset line within e = at_drop_more (tokens_from offset line) text offset 0 within ∙ at_bad offset line (get_or text offset 0) (drop (offset + 1) text) e

-- a run from this offset on does not go beyond the text
pub run_within : (p : ℕ → Bool) (text : List ℕ) (offset : ℕ) → offset ≤ length text → offset + length (take_while p (drop offset text)) ≤ length text
run_within p text offset within =
    omega (arith, length-take_while p (drop offset text), front_len-le p (drop offset text), length-drop offset text)

-- the longest run at this offset is the next token
pub word_at : (text : List ℕ) (offset line n : ℕ) → offset < length text → class_of (get_or text offset 0) ≡ byte.Word → n ≡ length (take_while is_word_byte (drop offset text))
    → tokens_at text offset line ≡ Ok (token_of kind.Word offset (offset + n) line) ∷ tokens_at text (offset + n) line
word_at text offset line n within e long =
    let b = get_or text offset 0 in
    let bs = drop (offset + 1) text in
    let m = front_len is_word_byte (b ∷ bs) in
    let all : drop offset text ≡ b ∷ bs = drop_more text offset 0 within in
    let same : m ≡ n = sym (length-take_while is_word_byte (b ∷ bs)) ∙ ap (λ x. length (take_while is_word_byte x)) (sym all) ∙ sym long in
    let behind : drop m (b ∷ bs) ≡ drop (offset + n) text = ap (λ x. drop m x) (sym all) ∙ drop-drop m offset text ∙ ap (λ k. drop (offset + k) text) same in
    ap (tokens_from offset line) all ∙ word_run offset line b bs e
    ∙ ap (λ k. Ok (token_of kind.Word offset (offset + k) line) ∷ tokens_from (offset + k) line (drop m (b ∷ bs))) same
    ∙ ap (λ x. Ok (token_of kind.Word offset (offset + n) line) ∷ tokens_from (offset + n) line x) behind

-- the comment at this offset is passed
pub comment_at : (text : List ℕ) (offset line n : ℕ) → offset < length text → class_of (get_or text offset 0) ≡ byte.Semicolon → n ≡ length (take_while continues_comment (drop offset text))
    → tokens_at text (offset + n) line ≡ tokens_at text offset line
comment_at text offset line n within e long =
    let b = get_or text offset 0 in
    let bs = drop (offset + 1) text in
    let m = front_len continues_comment bs in
    let all : drop offset text ≡ b ∷ bs = drop_more text offset 0 within in
    let no_feed : (b == 10) ≡ false = feed-class b ∙ ap feed_class e in
    let one : front_len continues_comment (b ∷ bs) ≡ suc m = rw no_feed refl in
    let same : suc offset + m ≡ offset + n = omega (arith, long, one, length-take_while continues_comment (b ∷ bs), ap (λ x. length (take_while continues_comment x)) all) in
    let behind : drop m bs ≡ drop (offset + n) text = drop-drop m (offset + 1) text ∙ ap (λ k. drop k text) (let h : offset + 1 + m ≡ offset + n = omega (arith, same) in h) in
    sym (ap (tokens_from offset line) all ∙ after_semicolon offset line b bs e ∙ comment_run (suc offset) line bs
    ∙ ap (λ k. tokens_from k line (drop m bs)) same ∙ ap (λ x. tokens_from (offset + n) line x) behind)
