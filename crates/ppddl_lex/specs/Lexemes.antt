-- The tokens of a text, and the first refusal in byte order.
--     tokens_from offset line bs         the tokens that the bytes bs spell, which begin at this offset and on this line;
--                                        the first byte that may not stand there ends them with its refusal
--     tokens_of text                     all tokens of a text, or its first refusal
--     Continues text offset line next    what a reader at an offset that asks for the next token is told
use Rattle.std.specs.Prelude.{◌≡◌, ℕ, suc, ◌+◌, ◌<◌, ◌≤◌, ◌==◌, if◌then◌else◌, nat_lt, true, false, List, [], ◌∷◌, ◌++◌, drop, Option, Some, None, Result, Ok, Err, IfSome, IfOk, refl}
use Rattle.ppddl_lex.specs.declared.token.Token.{Token}
use Rattle.ppddl_lex.specs.declared.token_kind.TokenKind.{TokenKind}
use Rattle.ppddl_lex.specs.declared.token_kind.TokenKind.TheVariants as kind
use Rattle.ppddl_lex.specs.declared.bytes.ByteClass.TheVariants as byte
use Rattle.ppddl_lex.specs.declared.refusal.LexRefusal.{LexRefusal}
use Rattle.ppddl_lex.specs.declared.refusal.LexRefusal.TheVariants.{BadByte, Unbalanced, TooDeep, Memory}
use Rattle.ppddl_lex.specs.Bytes.{class_of, line_feeds}
use Rattle.ppddl_lex.specs.Tokens.{open_behind}

-- a token, or why there is none
abbrev pub Lexeme : Type 0
Lexeme = Result Token LexRefusal

abbrev pub token_of : TokenKind → ℕ → ℕ → ℕ → Token
token_of k from to line = record { kind = k; from = from; to = to; line = line }

-- a token of one byte
abbrev pub single : TokenKind → ℕ → ℕ → Token
single k offset line = token_of k offset (suc offset) line

-- A byte of words lengthens the word that begins right behind it. Where none does, it is a word by itself.
abbrev pub put_word_byte : ℕ → ℕ → List Lexeme → List Lexeme
put_word_byte offset line [] = Ok (single kind.Word offset line) ∷ []
put_word_byte offset line (Err e ∷ ls) = Ok (single kind.Word offset line) ∷ Err e ∷ ls
put_word_byte offset line (Ok t ∷ ls) = elim t.kind [
  | kind.Word ↦ elim (t.from == suc offset) [
    | true ↦ Ok (record t { from = offset }) ∷ ls
    | false ↦ Ok (single kind.Word offset line) ∷ Ok t ∷ ls
  ]
  | kind.Left ↦ Ok (single kind.Word offset line) ∷ Ok t ∷ ls
  | kind.Right ↦ Ok (single kind.Word offset line) ∷ Ok t ∷ ls
]

abbrev mutual
  pub tokens_from : ℕ → ℕ → List ℕ → List Lexeme
  tokens_from offset line [] = []
  tokens_from offset line (b ∷ bs) = elim (class_of b) [
    | byte.LineFeed ↦ tokens_from (suc offset) (suc line) bs
    | byte.Blank ↦ tokens_from (suc offset) line bs
    | byte.Semicolon ↦ comment_from (suc offset) line bs
    | byte.Left ↦ Ok (single kind.Left offset line) ∷ tokens_from (suc offset) line bs
    | byte.Right ↦ Ok (single kind.Right offset line) ∷ tokens_from (suc offset) line bs
    | byte.Word ↦ put_word_byte offset line (tokens_from (suc offset) line bs)
    | byte.Bad ↦ Err (BadByte line) ∷ []
  ]

  -- the same inside a comment, which any byte but a line feed continues
  pub comment_from : ℕ → ℕ → List ℕ → List Lexeme
  comment_from offset line [] = []
  comment_from offset line (b ∷ bs) = elim (b == 10) [
    | true ↦ tokens_from (suc offset) (suc line) bs
    | false ↦ comment_from (suc offset) line bs
  ]

-- the tokens of a text from an offset on, which is on this line and in no comment
abbrev pub tokens_at : List ℕ → ℕ → ℕ → List Lexeme
tokens_at text offset line = tokens_from offset line (drop offset text)

-- The tokens from an offset on are the answered one and those behind it, which is where a reader goes on.
abbrev pub Continues : List ℕ → ℕ → ℕ → Option Lexeme → Type 0
Continues text offset line None = tokens_at text offset line ≡ []
Continues text offset line (Some (Ok t)) = tokens_at text offset line ≡ Ok t ∷ tokens_at text t.to t.line
Continues text offset line (Some (Err e)) = tokens_at text offset line ≡ Err e ∷ []

-- a fact of the answered token, if there is one
abbrev pub IfToken : Option Lexeme → (Token → Type 0) → Type 0
IfToken next P = IfSome next (λ lexeme. IfOk lexeme P)

-- a token stands behind this offset, within a text of this length, and has at most one line for each byte passed
pub record LiesBehind (offset on length : ℕ) (t : Token) : Type 0 where
  pub behind : offset ≤ t.from
  pub nonempty : t.from < t.to
  pub within : t.to ≤ length
  pub lines : t.line + offset ≤ on + t.from

-- how many parentheses are open behind a token, where n are open before it: at most 100
abbrev pub depth_behind : ℕ → Token → Result ℕ LexRefusal
depth_behind n t = elim (open_behind n t.kind) [
  | None ↦ Err (Unbalanced t.line)
  | Some m ↦ if nat_lt 100 m then Err (TooDeep t.line) else Ok m
]

-- tokens in front of what is behind them
abbrev pub with_front : List Token → Result (List Token) LexRefusal → Result (List Token) LexRefusal
with_front front (Ok ts) = Ok (front ++ ts)
with_front front (Err e) = Err e

-- The tokens where n parentheses are open before them, or the first refusal among theirs and those of the
-- parentheses. At the end nothing may be open, else the refusal is on the last line.
abbrev pub nested : ℕ → ℕ → List Lexeme → Result (List Token) LexRefusal
nested last n [] = if n == 0 then Ok [] else Err (Unbalanced last)
nested last n (Err e ∷ ls) = Err e
nested last n (Ok t ∷ ls) = elim (depth_behind n t) [
  | Err e ↦ Err e
  | Ok m ↦ with_front (t ∷ []) (nested last m ls)
]

-- the line of a text's end
abbrev pub last_line : List ℕ → ℕ
last_line text = 1 + line_feeds text

abbrev pub tokens_of : List ℕ → Result (List Token) LexRefusal
tokens_of text = nested (last_line text) 0 (tokens_at text 0 1)

-- an answer is the expected one, unless memory ran out
abbrev pub GivesTokens : Result (List Token) LexRefusal → Result (List Token) LexRefusal → Type 0
GivesTokens (Ok ts) expected = expected ≡ Ok ts
GivesTokens (Err Memory) expected = Unit {0}
GivesTokens (Err (BadByte line)) expected = expected ≡ Err (BadByte line)
GivesTokens (Err (Unbalanced line)) expected = expected ≡ Err (Unbalanced line)
GivesTokens (Err (TooDeep line)) expected = expected ≡ Err (TooDeep line)

-- `(a bc)`
example_group : tokens_of (40 ∷ 97 ∷ 32 ∷ 98 ∷ 99 ∷ 41 ∷ []) ≡
    Ok (single kind.Left 0 1 ∷ single kind.Word 1 1 ∷ token_of kind.Word 3 5 1 ∷ single kind.Right 5 1 ∷ [])
example_group = refl

-- `a;(` and `b`, on two lines
example_comment : tokens_of (97 ∷ 59 ∷ 40 ∷ 10 ∷ 98 ∷ []) ≡ Ok (single kind.Word 0 1 ∷ single kind.Word 4 2 ∷ [])
example_comment = refl

-- `)(`: the first refusal is that of the `)`
example_closed_first : tokens_of (41 ∷ 40 ∷ []) ≡ Err (Unbalanced 1)
example_closed_first = refl

-- `(` and a line feed: the end is on line 2
example_open_at_end : tokens_of (40 ∷ 10 ∷ []) ≡ Err (Unbalanced 2)
example_open_at_end = refl

-- a byte that may not stand comes before what is open at the end
example_bad_first : tokens_of (40 ∷ 10 ∷ 127 ∷ []) ≡ Err (BadByte 2)
example_bad_first = refl

-- and a `)` that closes nothing comes before it
example_closed_before_bad : tokens_of (41 ∷ 127 ∷ []) ≡ Err (Unbalanced 1)
example_closed_before_bad = refl
