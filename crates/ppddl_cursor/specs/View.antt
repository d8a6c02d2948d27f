-- What a cursor is, by its fields.
--     rest_of c       the pieces of the tokens that are left
--     ahead_at c      what lies ahead of it
--     IsValid c       its index and its tokens are in range, and what lies ahead spells the tokens that are left:
--                     each parenthesis that opens among them also closes
use Rattle.std.specs.Prelude.{◌≡◌, ◌≤◌, ◌<◌, ◌+◌, ◌^◌, List, length, All, drop}
use Rattle.ppddl_lex.specs.Tokens.{Lies}
use Rattle.ppddl_cursor.specs.declared.cursor.Cursor.TheInside.{Inside}
use Rattle.ppddl_cursor.specs.Forms.{Piece}
use Rattle.ppddl_cursor.specs.Ahead.{Ahead, ahead_of, pieces_of}
use Rattle.ppddl_cursor.specs.Pieces.{pieces, end_of_text}

abbrev pub rest_of : Inside → List Piece
rest_of c = drop c.index (pieces c.text.now c.file c.tokens.now)

abbrev pub ahead_at : Inside → Ahead
ahead_at c = ahead_of (end_of_text c.text.now c.file) (rest_of c)

pub record IsValid (c : Inside) : Type 0 where
  pub in_range : c.index ≤ length c.tokens.now
  pub lines_fit : length c.text.now + 1 < 2 ^ 32
  pub lie : All (Lies (length c.text.now)) c.tokens.now
  pub spelled : pieces_of (ahead_at c) ≡ rest_of c
