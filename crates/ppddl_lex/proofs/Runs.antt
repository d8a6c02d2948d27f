-- Longest runs of bytes: a word, and what is left of a comment.
use Rattle.std.proofs.Common.{◌≡◌, ◌≢◌, ℕ, suc, ◌+◌, ◌≤◌, ◌==◌, Bool, true, false, cond, not, List, [], ◌∷◌, length, drop, take_while, Ok, Err, refl, ap, sym, ◌∙◌, arith, rules, tests, add-zero}
use Rattle.std.proofs.lemmas.List.Sums.{take_while-cons}
use Rattle.std.proofs.lemmas.Bool.{ne_eqb}
use Rattle.ppddl_lex.specs.declared.token.Token.{Token}
use Rattle.ppddl_lex.specs.declared.token_kind.TokenKind.{TokenKind}
use Rattle.ppddl_lex.specs.declared.token_kind.TokenKind.TheVariants as kind
use Rattle.ppddl_lex.specs.declared.bytes.ByteClass.{ByteClass}
use Rattle.ppddl_lex.specs.declared.bytes.ByteClass.TheVariants as byte
use Rattle.ppddl_lex.specs.Bytes.{class_of, is_word_class, is_word_byte, continues_comment}
use Rattle.ppddl_lex.specs.Lexemes.{Lexeme, tokens_from, comment_from, put_word_byte, single, token_of}
use Rattle.ppddl_lex.proofs.Steps.{after_feed, after_blank, after_semicolon, at_left, at_right, at_word_byte, at_bad, comment_ends, comment_goes_on, class-feed}

-- how many elements from the front on pass a test
abbrev pub front_len : (ℕ → Bool) → List ℕ → ℕ
front_len p [] = 0
front_len p (b ∷ bs) = cond (p b) (suc (front_len p bs)) 0

pub length-take_while : (p : ℕ → Bool) (bs : List ℕ) → length (take_while p bs) ≡ front_len p bs
length-take_while p [] = refl
length-take_while p (b ∷ bs) = rw take_while-cons (elim (p b) as (λ v. length (cond v (b ∷ take_while p bs) []) ≡ cond v (suc (front_len p bs)) 0) [
  | true ↦ ap suc (length-take_while p bs)
  | false ↦ refl
])

pub front_len-le : (p : ℕ → Bool) (bs : List ℕ) → front_len p bs ≤ length bs
front_len-le p [] = omega arith
front_len-le p (b ∷ bs) = elim (p b) as (λ v. cond v (suc (front_len p bs)) 0 ≤ suc (length bs)) [
  | true ↦ omega (arith, front_len-le p bs)
  | false ↦ omega arith
]

-- the first token begins at this offset or behind it
abbrev StartsBehind : ℕ → List Lexeme → Type 0
StartsBehind n [] = Unit {0}
StartsBehind n (Err e ∷ ls) = Unit {0}
StartsBehind n (Ok t ∷ ls) = n ≤ t.from

behind_less : (n : ℕ) (ls : List Lexeme) → StartsBehind (suc n) ls → StartsBehind n ls
behind_less n [] h = tt
behind_less n (Err e ∷ ls) h = tt
behind_less n (Ok t ∷ ls) h = omega arith

-- a byte of words before a token of this kind
abbrev put_before : ℕ → ℕ → Token → List Lexeme → TokenKind → List Lexeme
put_before offset line t ls k = elim k [
  | kind.Word ↦ elim (t.from == suc offset) [
    | true ↦ Ok (record t { from = offset }) ∷ ls
    | false ↦ Ok (single kind.Word offset line) ∷ Ok t ∷ ls
  ]
  | kind.Left ↦ Ok (single kind.Word offset line) ∷ Ok t ∷ ls
  | kind.Right ↦ Ok (single kind.Word offset line) ∷ Ok t ∷ ls
]

behind_before : (offset line : ℕ) (t : Token) (ls : List Lexeme) (k : TokenKind) → StartsBehind offset (put_before offset line t ls k)
behind_before offset line t ls kind.Left = omega arith
behind_before offset line t ls kind.Right = omega arith
behind_before offset line t ls kind.Word =
    elim (t.from == suc offset) as (λ v. StartsBehind offset (elim v [ true ↦ Ok (record t { from = offset }) ∷ ls | false ↦ Ok (single kind.Word offset line) ∷ Ok t ∷ ls ])) [
      | true ↦ omega arith
      | false ↦ omega arith
    ]

behind_word_byte : (offset line : ℕ) (ls : List Lexeme) → StartsBehind offset (put_word_byte offset line ls)
behind_word_byte offset line [] = omega arith
behind_word_byte offset line (Err e ∷ ls) = omega arith
behind_word_byte offset line (Ok t ∷ ls) = behind_before offset line t ls t.kind

mutual
  pub starts_behind : (offset line : ℕ) (bs : List ℕ) → StartsBehind offset (tokens_from offset line bs)
  starts_behind offset line [] = tt
  starts_behind offset line (b ∷ bs) = (elim (class_of b) as (λ k. class_of b ≡ k → StartsBehind offset (tokens_from offset line (b ∷ bs))) [
    | byte.LineFeed ↦ λ e. rw (after_feed offset line b bs e) (behind_less offset _ (starts_behind (suc offset) (suc line) bs))
    | byte.Blank ↦ λ e. rw (after_blank offset line b bs e) (behind_less offset _ (starts_behind (suc offset) line bs))
    | byte.Semicolon ↦ λ e. rw (after_semicolon offset line b bs e) (behind_less offset _ (comment_behind (suc offset) line bs))
    | byte.Left ↦ λ e. rw (at_left offset line b bs e) (omega arith)
    | byte.Right ↦ λ e. rw (at_right offset line b bs e) (omega arith)
    | byte.Word ↦ λ e. rw (at_word_byte offset line b bs e) (behind_word_byte offset line (tokens_from (suc offset) line bs))
    | byte.Bad ↦ λ e. rw (at_bad offset line b bs e) tt
  ]) refl

  pub comment_behind : (offset line : ℕ) (bs : List ℕ) → StartsBehind offset (comment_from offset line bs)
  comment_behind offset line [] = tt
  comment_behind offset line (b ∷ bs) = (elim (b == 10) as (λ v. (b == 10) ≡ v → StartsBehind offset (comment_from offset line (b ∷ bs))) [
    | true ↦ λ e. rw (comment_ends offset line b bs e) (behind_less offset _ (starts_behind (suc offset) (suc line) bs))
    | false ↦ λ e. rw (comment_goes_on offset line b bs e) (behind_less offset _ (comment_behind (suc offset) line bs))
  ]) refl

-- no word begins at this offset
abbrev NoWordAt : ℕ → List Lexeme → Type 0
NoWordAt n [] = Unit {0}
NoWordAt n (Err e ∷ ls) = Unit {0}
NoWordAt n (Ok t ∷ ls) = t.kind ≡ kind.Word → t.from ≢ n

no_word_behind : (n : ℕ) (ls : List Lexeme) → StartsBehind (suc n) ls → NoWordAt n ls
no_word_behind n [] h = tt
no_word_behind n (Err e ∷ ls) h = tt
no_word_behind n (Ok t ∷ ls) h = λ _ same. omega arith

-- no other byte begins a word
no_word_at : (offset line b : ℕ) (bs : List ℕ) → is_word_byte b ≡ false → NoWordAt offset (tokens_from offset line (b ∷ bs))
no_word_at offset line b bs other = (elim (class_of b) as (λ k. class_of b ≡ k → NoWordAt offset (tokens_from offset line (b ∷ bs))) [
  | byte.LineFeed ↦ λ e. rw (after_feed offset line b bs e) (no_word_behind offset _ (starts_behind (suc offset) (suc line) bs))
  | byte.Blank ↦ λ e. rw (after_blank offset line b bs e) (no_word_behind offset _ (starts_behind (suc offset) line bs))
  | byte.Semicolon ↦ λ e. rw (after_semicolon offset line b bs e) (no_word_behind offset _ (comment_behind (suc offset) line bs))
  | byte.Left ↦ λ e. rw (at_left offset line b bs e) (λ k. absurd (cc))
  | byte.Right ↦ λ e. rw (at_right offset line b bs e) (λ k. absurd (cc))
  | byte.Word ↦ λ e. absurd (let passes : is_word_byte b ≡ true = ap is_word_class e in cc)
  | byte.Bad ↦ λ e. rw (at_bad offset line b bs e) tt
]) refl

-- a byte of words before no word is a word by itself
before_other : (offset line : ℕ) (t : Token) (ls : List Lexeme) (k : TokenKind) → (k ≡ kind.Word → t.from ≢ suc offset) → put_before offset line t ls k ≡ Ok (single kind.Word offset line) ∷ Ok t ∷ ls
before_other offset line t ls kind.Left h = refl
before_other offset line t ls kind.Right h = refl
before_other offset line t ls kind.Word h = let other : (t.from == suc offset) ≡ false = ne_eqb t.from (suc offset) (h refl) in rw (other, put_before) refl

put_alone : (offset line : ℕ) (ls : List Lexeme) → NoWordAt (suc offset) ls → put_word_byte offset line ls ≡ Ok (single kind.Word offset line) ∷ ls
put_alone offset line [] h = refl
put_alone offset line (Err e ∷ ls) h = refl
put_alone offset line (Ok t ∷ ls) h = before_other offset line t ls t.kind h

-- and before the rest of a word it lengthens it
put_longer : (offset to line : ℕ) (ls : List Lexeme) → put_word_byte offset line (Ok (token_of kind.Word (suc offset) to line) ∷ ls) ≡ Ok (token_of kind.Word offset to line) ∷ ls
put_longer offset to line ls = let same : (suc offset == suc offset) ≡ true = search (tests, rules) in rw (same, put_word_byte) refl

pub is_word_byte-true : (b : ℕ) → class_of b ≡ byte.Word → is_word_byte b ≡ true
is_word_byte-true b e = ap is_word_class e

word_class : (k : ByteClass) → is_word_class k ≡ true → k ≡ byte.Word
word_class byte.LineFeed e = absurd (cc)
word_class byte.Blank e = absurd (cc)
word_class byte.Semicolon e = absurd (cc)
word_class byte.Left e = absurd (cc)
word_class byte.Right e = absurd (cc)
word_class byte.Word e = refl
word_class byte.Bad e = absurd (cc)

pub class-word_byte : (b : ℕ) → is_word_byte b ≡ true → class_of b ≡ byte.Word
class-word_byte b e = word_class (class_of b) e

-- and before what follows it is a word that goes on as long as such bytes follow
put_run : (offset line : ℕ) (bs : List ℕ) → let n = front_len is_word_byte bs in
    put_word_byte offset line (tokens_from (suc offset) line bs) ≡ Ok (token_of kind.Word offset (suc offset + n) line) ∷ tokens_from (suc offset + n) line (drop n bs)
put_run offset line [] = rw add-zero refl
put_run offset line (b ∷ bs) =
    (elim (is_word_byte b) as (λ v. is_word_byte b ≡ v → put_word_byte offset line (tokens_from (suc offset) line (b ∷ bs))
    ≡ Ok (token_of kind.Word offset (suc offset + cond v (suc (front_len is_word_byte bs)) 0) line) ∷ tokens_from (suc offset + cond v (suc (front_len is_word_byte bs)) 0) line (drop (cond v (suc (front_len is_word_byte bs)) 0) (b ∷ bs))) [
      | true ↦ λ e.
          let n = front_len is_word_byte bs in
          let same : suc (suc offset) + n ≡ suc offset + suc n = omega arith in
          ap (put_word_byte offset line) (at_word_byte (suc offset) line b bs (class-word_byte b e) ∙ put_run (suc offset) line bs)
          ∙ put_longer offset (suc (suc offset) + n) line (tokens_from (suc (suc offset) + n) line (drop n bs))
          ∙ ap (λ k. Ok (token_of kind.Word offset k line) ∷ tokens_from k line (drop n bs)) same
      | false ↦ λ e. rw add-zero (put_alone offset line (tokens_from (suc offset) line (b ∷ bs)) (no_word_at (suc offset) line b bs e))
    ]) refl

-- where a byte of words stands a word begins, and goes on as long as such bytes follow
pub word_run : (offset line b : ℕ) (bs : List ℕ) → class_of b ≡ byte.Word → let n = front_len is_word_byte (b ∷ bs) in
    tokens_from offset line (b ∷ bs) ≡ Ok (token_of kind.Word offset (offset + n) line) ∷ tokens_from (offset + n) line (drop n (b ∷ bs))
word_run offset line b bs e =
    let n = front_len is_word_byte bs in
    let same : suc offset + n ≡ offset + suc n = omega arith in
    rw (is_word_byte-true b e) (at_word_byte offset line b bs e ∙ put_run offset line bs ∙ ap (λ k. Ok (token_of kind.Word offset k line) ∷ tokens_from k line (drop n bs)) same)

-- a comment goes on to the line feed
pub comment_run : (offset line : ℕ) (bs : List ℕ) → let n = front_len continues_comment bs in
    comment_from offset line bs ≡ tokens_from (offset + n) line (drop n bs)
comment_run offset line [] = refl
comment_run offset line (b ∷ bs) =
    (elim (b == 10) as (λ v. (b == 10) ≡ v → comment_from offset line (b ∷ bs)
    ≡ tokens_from (offset + cond (not v) (suc (front_len continues_comment bs)) 0) line (drop (cond (not v) (suc (front_len continues_comment bs)) 0) (b ∷ bs))) [
      | true ↦ λ e. rw add-zero (comment_ends offset line b bs e ∙ sym (after_feed offset line b bs (class-feed b e)))
      | false ↦ λ e.
          let n = front_len continues_comment bs in
          let same : suc offset + n ≡ offset + suc n = omega arith in
          comment_goes_on offset line b bs e ∙ comment_run (suc offset) line bs ∙ ap (λ k. tokens_from k line (drop n bs)) same
    ]) refl
