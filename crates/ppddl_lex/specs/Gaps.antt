-- A text as tokens with gaps between them: the tokens, with the gaps, are the whole text.
--     IsGap bs                      blanks, ends of lines and whole comments
--     IsNext offset line bs next    what comes next in the bytes bs, which begin at this offset and on this line
--     Spells offset line bs ts      the bytes bs are these tokens, each behind its gap, and a last gap
use Rattle.std.specs.Prelude.{◌≡◌, ◌≢◌, ℕ, ◌+◌, ◌<◌, ◌==◌, true, false, List, [], ◌∷◌, ◌++◌, length, Option, Some, None, Ok, Err}
use Rattle.std.specs.List.{AllByRecursion}
use Rattle.ppddl_lex.specs.declared.token.Token.{Token}
use Rattle.ppddl_lex.specs.declared.token_kind.TokenKind.{TokenKind}
use Rattle.ppddl_lex.specs.declared.token_kind.TokenKind.TheVariants as kind
use Rattle.ppddl_lex.specs.declared.bytes.ByteClass.TheVariants as byte
use Rattle.ppddl_lex.specs.declared.refusal.LexRefusal.{LexRefusal}
use Rattle.ppddl_lex.specs.declared.refusal.LexRefusal.TheVariants.{BadByte}
use Rattle.ppddl_lex.specs.Bytes.{class_of, line_feeds}
use Rattle.ppddl_lex.specs.Lexemes.{Lexeme}

abbrev mutual
  pub IsGap : List ℕ → Type 0
  IsGap [] = Unit {0}
  IsGap (b ∷ bs) = elim (class_of b) [
    | byte.LineFeed ↦ IsGap bs
    | byte.Blank ↦ IsGap bs
    | byte.Semicolon ↦ IsCommentAndGap bs
    | byte.Left ↦ ⊥
    | byte.Right ↦ ⊥
    | byte.Word ↦ ⊥
    | byte.Bad ↦ ⊥
  ]

  -- the rest of a comment with its line feed, and then a gap
  pub IsCommentAndGap : List ℕ → Type 0
  IsCommentAndGap [] = ⊥
  IsCommentAndGap (b ∷ bs) = elim (b == 10) [ true ↦ IsGap bs | false ↦ IsCommentAndGap bs ]

-- a gap at the end of a text, which ends a comment as a line feed does
abbrev pub IsLastGap : List ℕ → Type 0
IsLastGap bs = IsGap (bs ++ 10 ∷ [])

-- these bytes do not go on with a word
abbrev pub EndsWord : List ℕ → Type 0
EndsWord [] = Unit {0}
EndsWord (b ∷ bs) = class_of b ≢ byte.Word

-- These bytes spell a token of this kind, where the rest is behind them: a word is a longest run.
abbrev pub IsSpelling : TokenKind → List ℕ → List ℕ → Type 0
IsSpelling kind.Left word rest = word ≡ 40 ∷ []
IsSpelling kind.Right word rest = word ≡ 41 ∷ []
IsSpelling kind.Word word rest = (0 < length word) × AllByRecursion (λ b. class_of b ≡ byte.Word) word × EndsWord rest

-- the token t stands in the bytes bs, behind this gap and before the rest
pub record Stands (offset on : ℕ) (bs : List ℕ) (t : Token) (gap spelling rest : List ℕ) : Type 0 where
  pub whole : bs ≡ gap ++ (spelling ++ rest)
  pub spelled : IsSpelling t.kind spelling rest
  pub from : t.from ≡ offset + length gap
  pub to : t.to ≡ t.from + length spelling
  pub line : t.line ≡ on + line_feeds gap

-- a byte that may not stand there comes behind this gap
pub record IsBad (line : ℕ) (bs : List ℕ) (e : LexRefusal) (gap : List ℕ) (b : ℕ) (rest : List ℕ) : Type 0 where
  pub whole : bs ≡ gap ++ b ∷ rest
  pub bad : class_of b ≡ byte.Bad
  pub refusal : e ≡ BadByte (line + line_feeds gap)

abbrev pub IsNext : ℕ → ℕ → List ℕ → Option Lexeme → Type 0
IsNext offset line bs None = IsLastGap bs
IsNext offset line bs (Some (Ok t)) = (gap : List ℕ) × (spelling : List ℕ) × (rest : List ℕ) × IsGap gap × Stands offset line bs t gap spelling rest
IsNext offset line bs (Some (Err e)) = (gap : List ℕ) × (b : ℕ) × (rest : List ℕ) × IsGap gap × IsBad line bs e gap b rest

abbrev pub Spells : ℕ → ℕ → List ℕ → List Token → Type 0
Spells offset line bs [] = IsLastGap bs
Spells offset line bs (t ∷ ts) = (gap : List ℕ) × (spelling : List ℕ) × (rest : List ℕ)
    × IsGap gap × Stands offset line bs t gap spelling rest × Spells t.to t.line rest ts
