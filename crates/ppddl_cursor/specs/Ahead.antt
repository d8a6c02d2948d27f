-- What lies ahead of a place in a text: the forms that are left in the innermost group, where it closes, and what lies
-- ahead behind it. Outside every group it is the forms that are left in the text, and where the text ends.
--     ahead_of e ps       what pieces are ahead as, where the text ends at e
--     pieces_of h         the pieces that lie ahead, and `end_of h` the end of the text
--     after h             what is ahead behind the next piece
--     next_of h           the kind of the next piece, `place_of h` where it stands, and `word_of h` its word
--     has_form h          a form is next, and neither the end of a group nor that of the text
--     is_word w h         the word w of small letters is next, in letters of either case
use Rattle.std.specs.Prelude.{ℕ, List, [], ◌∷◌, ◌++◌, length, Bool, true, false, nat_eq, Option, Some, None}
use Rattle.std.specs.Cmp.Lexicographic.{pointwise}
use Rattle.ppddl_lex.specs.declared.token_kind.TokenKind.{TokenKind}
use Rattle.ppddl_lex.specs.declared.token_kind.TokenKind.TheVariants.{Left, Right, Word}
use Rattle.ppddl_lex.specs.Words.{is_same_word}
use Rattle.ppddl_cursor.specs.declared.place.Place.{Place}
use Rattle.ppddl_cursor.specs.Forms.{Piece, left, right, word, Form, Forms, lone, group, none, more, spell_all, begin_of}

pub data Ahead : Type 0 where
  top : Forms → Place → Ahead
  inner : Forms → Place → Ahead → Ahead

-- a form in front of what lies ahead
abbrev pub put : Form → Ahead → Ahead
put f (top fs e) = top (more f fs) e
put f (inner fs b out) = inner (more f fs) b out

-- a `(` in front of what lies ahead: it opens the innermost group, or one that the end of the text closes
abbrev pub put_left : Place → Ahead → Ahead
put_left a (top fs e) = top (more (group a fs e) none) e
put_left a (inner fs b out) = put (group a fs b) out

abbrev pub ahead_of : Place → List Piece → Ahead
ahead_of e [] = top none e
ahead_of e (left a ∷ ps) = put_left a (ahead_of e ps)
ahead_of e (right b ∷ ps) = inner none b (ahead_of e ps)
ahead_of e (word w a ∷ ps) = put (lone w a) (ahead_of e ps)

abbrev pub pieces_of : Ahead → List Piece
pieces_of (top fs e) = spell_all fs
pieces_of (inner fs b out) = spell_all fs ++ right b ∷ pieces_of out

abbrev pub end_of : Ahead → Place
end_of (top fs e) = e
end_of (inner fs b out) = end_of out

-- the number of pieces that lie ahead
unfoldable pub size : Ahead → ℕ
size h = length (pieces_of h)

-- no group is open
abbrev pub is_top : Ahead → Bool
is_top (top fs e) = true
is_top (inner fs b out) = false

unfoldable pub after : Ahead → Ahead
after (top none e) = top none e
after (top (more (lone w a) fs) e) = top fs e
after (top (more (group a fs b) gs) e) = inner fs b (top gs e)
after (inner none b out) = out
after (inner (more (lone w a) fs) b out) = inner fs b out
after (inner (more (group a fs b) gs) c out) = inner fs b (inner gs c out)

abbrev pub kind_of : Form → TokenKind
kind_of (lone w a) = Word
kind_of (group a fs b) = Left

-- None at the end of the text
unfoldable pub next_of : Ahead → Option TokenKind
next_of (top none e) = None
next_of (top (more f fs) e) = Some (kind_of f)
next_of (inner none b out) = Some Right
next_of (inner (more f fs) b out) = Some (kind_of f)

unfoldable pub has_form : Ahead → Bool
has_form (top none e) = false
has_form (top (more f fs) e) = true
has_form (inner none b out) = false
has_form (inner (more f fs) b out) = true

-- the end of the text where no piece is next
unfoldable pub place_of : Ahead → Place
place_of (top none e) = e
place_of (top (more f fs) e) = begin_of f
place_of (inner none b out) = b
place_of (inner (more f fs) b out) = begin_of f

abbrev pub word_of_form : Form → List ℕ
word_of_form (lone w a) = w
word_of_form (group a fs b) = []

-- empty where no word is next
unfoldable pub word_of : Ahead → List ℕ
word_of (top none e) = []
word_of (top (more f fs) e) = word_of_form f
word_of (inner none b out) = []
word_of (inner (more f fs) b out) = word_of_form f

-- two words are the same
abbrev pub same : List ℕ → List ℕ → Bool
same = pointwise nat_eq

abbrev pub is_word_form : List ℕ → Form → Bool
is_word_form w (lone v a) = is_same_word v w
is_word_form w (group a fs b) = false

unfoldable pub is_word : List ℕ → Ahead → Bool
is_word w (top none e) = false
is_word w (top (more f fs) e) = is_word_form w f
is_word w (inner none b out) = false
is_word w (inner (more f fs) b out) = is_word_form w f
