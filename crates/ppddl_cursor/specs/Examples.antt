-- Worked examples, which compute; and the small grammar that the tests read.
use Rattle.std.specs.Prelude.{◌≡◌, ℕ, List, [], ◌∷◌, ◌++◌, Result, Ok, codes, refl}
use Rattle.ppddl_lex.specs.declared.token.Token.{Token}
use Rattle.ppddl_lex.specs.declared.token_kind.TokenKind.{TokenKind}
use Rattle.ppddl_lex.specs.declared.token_kind.TokenKind.TheVariants.{Left, Right, Word}
use Rattle.ppddl_model.specs.declared.refusal.TextCode.TheVariants.{Expected}
use Rattle.ppddl_cursor.specs.declared.place.Place.{Place}
use Rattle.ppddl_cursor.specs.Forms.{left, right, word, Form, lone, group, none, more}
use Rattle.ppddl_cursor.specs.Ahead.{top, inner, ahead_of, pieces_of}
use Rattle.ppddl_cursor.specs.Pieces.{text_ahead}
use Rattle.ppddl_cursor.specs.Reading.{Fault, fails, one_at, rest_at, all_at, read_to, wanted}
use Rattle.ppddl_cursor.specs.Sequences.{of_word, in_group, group_with, one_then, last, many, keyword}

abbrev line : ℕ → Place
line n = record { file = 1; line = n }

abbrev w : List ℕ → ℕ → Form
w text n = lone text (line n)

-- ---- a text: `(NOT` on line 1, `p) q` on line 2, and a line feed behind it

abbrev text : List ℕ
text = codes "(NOT" ++ 10 ∷ codes "p) q" ++ 10 ∷ []

abbrev token_at : TokenKind → ℕ → ℕ → ℕ → Token
token_at kind from to n = record { kind = kind; from = from; to = to; line = n }

abbrev tokens : List Token
tokens = token_at Left 0 1 1 ∷ token_at Word 1 4 1 ∷ token_at Word 5 6 2 ∷ token_at Right 6 7 2 ∷ token_at Word 8 9 2 ∷ []

-- the text ends on line 3
is_text : text_ahead text 1 tokens
    ≡ top (more (group (line 1) (more (w (codes "NOT") 1) (more (w (codes "p") 2) none)) (line 2)) (more (w (codes "q") 2) none)) (line 3)
is_text = refl

-- and a word is read in lower case
is_read : one_at (wanted (codes "not") Expected) (top (more (w (codes "NOT") 1) none) (line 3)) ≡ read_to tt (top none (line 3))
unfolding one_at
is_read = refl

-- ---- what lies ahead

-- `a (b) c)` in a group
nested : ahead_of (line 4) (word (codes "a") (line 1) ∷ left (line 1) ∷ word (codes "b") (line 2) ∷ right (line 3) ∷ right (line 3) ∷ [])
    ≡ inner (more (w (codes "a") 1) (more (group (line 1) (more (w (codes "b") 2) none) (line 3)) none)) (line 3) (top none (line 4))
nested = refl

-- a group that nothing closes closes at the end of the text, and spells a `)` that is not there
unclosed : pieces_of (ahead_of (line 4) (left (line 1) ∷ [])) ≡ left (line 1) ∷ right (line 4) ∷ []
unclosed = refl

-- ---- a small grammar

-- a word
unfoldable pub term : Form → Result (List ℕ) Fault
term = of_word (λ v a. Ok v)

-- ( = term term )
unfoldable pub equal : Form → Result (List ℕ × List ℕ) Fault
equal = group_with (codes "=") (one_then term (λ x. one_then term (λ y. last (x, y))))

-- a missing term is refused at the `)` of its group
missing : one_at equal (ahead_of (line 9) (left (line 1) ∷ word (codes "=") (line 2) ∷ word (codes "a") (line 3) ∷ right (line 4) ∷ [])) ≡ fails Expected (line 4)
unfolding one_at equal term of_word group_with in_group one_then keyword last
missing = refl

-- the `)` that ends a list is refused where the text has none
at_the_end : rest_at (many term) (ahead_of (line 9) (word (codes "a") (line 1) ∷ [])) ≡ fails Expected (line 9)
unfolding rest_at many term of_word
at_the_end = refl

-- and the end of the text where a `)` stands
not_at_the_end : all_at (many term) (ahead_of (line 9) (word (codes "a") (line 1) ∷ right (line 2) ∷ [])) ≡ fails Expected (line 2)
unfolding all_at many term of_word
not_at_the_end = refl
