-- The pieces of a text's tokens. A word is the slice of its token.
--     piece text n t          the piece of the token t of a text that is number n of those read
--     pieces text n ts        the pieces of its tokens
--     text_ahead text n ts    what lies ahead at the beginning of the text
use Rattle.std.specs.Prelude.{ℕ, List, map, slice_range}
use Rattle.ppddl_lex.specs.declared.token.Token.{Token}
use Rattle.ppddl_lex.specs.declared.token_kind.TokenKind.{TokenKind}
use Rattle.ppddl_lex.specs.declared.token_kind.TokenKind.TheVariants.{Left, Right, Word}
use Rattle.ppddl_lex.specs.Lexemes.{last_line}
use Rattle.ppddl_cursor.specs.declared.place.Place.{Place}
use Rattle.ppddl_cursor.specs.Forms.{Piece, left, right, word}
use Rattle.ppddl_cursor.specs.Ahead.{Ahead, ahead_of}

abbrev pub piece_by : TokenKind → List ℕ → Place → Piece
piece_by Left w a = left a
piece_by Right w a = right a
piece_by Word w a = word w a

abbrev pub piece : List ℕ → ℕ → Token → Piece
piece text n t = piece_by t.kind (slice_range text t.from t.to) (record { file = n; line = t.line })

abbrev pub pieces : List ℕ → ℕ → List Token → List Piece
pieces text n ts = map (piece text n) ts

abbrev pub end_of_text : List ℕ → ℕ → Place
end_of_text text n = record { file = n; line = last_line text }

abbrev pub text_ahead : List ℕ → ℕ → List Token → Ahead
text_ahead text n ts = ahead_of (end_of_text text n) (pieces text n ts)
