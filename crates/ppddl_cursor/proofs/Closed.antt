-- Where every parenthesis of a text's tokens closes, counted from left to right, what lies ahead spells their pieces.
use Rattle.std.proofs.Common.{◌≡◌, ℕ, zero, suc, List, [], ◌∷◌, true, Option, Some, None, refl, ap, ◌∙◌}
use Rattle.ppddl_lex.specs.declared.token.Token.{Token}
use Rattle.ppddl_lex.specs.declared.token_kind.TokenKind.{TokenKind}
use Rattle.ppddl_lex.specs.declared.token_kind.TokenKind.TheVariants.{Left, Right, Word}
use Rattle.ppddl_lex.specs.Tokens.{open_behind, open_after, IsClosed}
use Rattle.ppddl_cursor.specs.declared.place.Place.{Place}
use Rattle.ppddl_cursor.specs.Forms.{Piece, left, right, word, Form, lone, group}
use Rattle.ppddl_cursor.specs.Ahead.{Ahead, top, inner, put, put_left, ahead_of, pieces_of, is_top}
use Rattle.ppddl_cursor.specs.Pieces.{piece_by, pieces, end_of_text, text_ahead}
use Rattle.ppddl_cursor.proofs.Spelled.{IsSpelled, pieces-put, pieces-put_left}

-- how many groups are open
abbrev depth : Ahead → ℕ
depth (top fs e) = zero
depth (inner fs b out) = suc (depth out)

depth-put : (f : Form) (h : Ahead) → depth (put f h) ≡ depth h
depth-put f (top fs e) = refl
depth-put f (inner fs b out) = refl

-- the pieces are spelled, and n groups are open in front of them
abbrev Closes : Place → ℕ → List Piece → Type 0
Closes e n ps = IsSpelled e ps × (depth (ahead_of e ps) ≡ n)

Closes-left : (e a : Place) (ps : List Piece) (n : ℕ) (h : Ahead) → pieces_of h ≡ ps → depth h ≡ suc n → (pieces_of (put_left a h) ≡ left a ∷ ps) × (depth (put_left a h) ≡ n)
Closes-left e a ps n (top fs b) spelled deep = absurd cc
Closes-left e a ps n (inner fs b out) spelled deep =
    (pieces-put_left a b fs out ∙ ap (λ (qs : List Piece). left a ∷ qs) spelled, depth-put (group a fs b) out ∙ cc)

-- the count behind a token, and then behind the others
abbrev counted : (ℕ → Option ℕ) → Option ℕ → Option ℕ
counted others None = None
counted others (Some n) = others n

word_counted : (others : ℕ → Option ℕ) (n : ℕ) → counted others (open_behind n Word) ≡ Some 0 → others n ≡ Some 0
word_counted others zero is = is
word_counted others (suc n) is = is

Closes-more : (k : TokenKind) (w : List ℕ) (e a : Place) (ps : List Piece) (others : ℕ → Option ℕ) → ((n : ℕ) → others n ≡ Some 0 → Closes e n ps)
    → (n : ℕ) → counted others (open_behind n k) ≡ Some 0 → Closes e n (piece_by k w a ∷ ps)
Closes-more Left w e a ps others closes n is =
    let c = closes (suc n) is in
    Closes-left e a ps n (ahead_of e ps) c.0 c.1
Closes-more Right w e a ps others closes zero is = absurd cc
Closes-more Right w e a ps others closes (suc n) is =
    let c = closes n is in
    (ap (λ (qs : List Piece). right a ∷ qs) c.0, ap suc c.1)
Closes-more Word w e a ps others closes n is =
    let c = closes n (word_counted others n is) in
    (pieces-put (lone w a) (ahead_of e ps) ∙ ap (λ (qs : List Piece). word w a ∷ qs) c.0, depth-put (lone w a) (ahead_of e ps) ∙ c.1)

closes : (e : Place) (text : List ℕ) (file : ℕ) (ts : List Token) (n : ℕ) → open_after n ts ≡ Some 0 → Closes e n (pieces text file ts)
closes e text file [] n is = (refl, cc)
closes e text file (t ∷ ts) n is =
    Closes-more t.kind _ e _ (pieces text file ts) (λ m. open_after m ts) (λ m. closes e text file ts m) n is

pub text_spelled : (text : List ℕ) (file : ℕ) (ts : List Token) → IsClosed ts → pieces_of (text_ahead text file ts) ≡ pieces text file ts
text_spelled text file ts is = (closes (end_of_text text file) text file ts 0 is).0

is_top_at : (h : Ahead) → depth h ≡ zero → is_top h ≡ true
is_top_at (top fs e) is = refl
is_top_at (inner fs b out) is = absurd cc

pub text_top : (text : List ℕ) (file : ℕ) (ts : List Token) → IsClosed ts → is_top (text_ahead text file ts) ≡ true
text_top text file ts is = is_top_at (text_ahead text file ts) (closes (end_of_text text file) text file ts 0 is).1
