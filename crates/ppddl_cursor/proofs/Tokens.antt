-- A cursor at one of its tokens, and at the end of them.
use Rattle.std.proofs.Common.{◌≡◌, ℕ, zero, suc, ◌+◌, ◌<◌, ◌≤◌, List, [], ◌∷◌, length, Option, Some, None, get_or, drop, refl, sym, ap, subst, ◌∙◌, arith, add-one, inl, inr}
use Rattle.std.proofs.Math.Seq.{drop-nil}
use Rattle.std.proofs.lemmas.Bool.{cases_lt}
use Rattle.std.specs.Prelude.{slice_range}
use Rattle.ppddl_lex.specs.declared.token.Token.{Token}
use Rattle.ppddl_lex.specs.declared.token_kind.TokenKind.{TokenKind}
use Rattle.ppddl_lex.specs.declared.token_kind.TokenKind.TheVariants.{Left, Right, Word}
use Rattle.ppddl_cursor.specs.declared.place.Place.{Place}
use Rattle.ppddl_cursor.specs.declared.cursor.Cursor.TheInside.{Inside}
use Rattle.ppddl_cursor.specs.Forms.{Piece, none}
use Rattle.ppddl_cursor.specs.Ahead.{top, ahead_of, size, after, next_of, place_of, word_of}
use Rattle.ppddl_cursor.specs.Pieces.{piece, piece_by, pieces, end_of_text}
use Rattle.ppddl_cursor.specs.View.{rest_of, ahead_at, IsValid}
use Rattle.ppddl_cursor.proofs.Spelled.{IsSpelled, after_first, kind_of_piece, next_first, place_of_piece, place_first, word_first}

kind-piece : (k : TokenKind) (w : List ℕ) (a : Place) → kind_of_piece (piece_by k w a) ≡ k
kind-piece Left w a = refl
kind-piece Right w a = refl
kind-piece Word w a = refl

place-kind : (k : TokenKind) (w : List ℕ) (a : Place) → place_of_piece (piece_by k w a) ≡ a
place-kind Left w a = refl
place-kind Right w a = refl
place-kind Word w a = refl

word-kind : (e : Place) (k : TokenKind) (w : List ℕ) (a : Place) (ps : List Piece) → k ≡ Word → word_of (ahead_of e (piece_by k w a ∷ ps)) ≡ w
word-kind e Left w a ps is = absurd cc
word-kind e Right w a ps is = absurd cc
word-kind e Word w a ps is = word_first e w a ps

first_piece : (text : List ℕ) (n : ℕ) (ts : List Token) (i : ℕ) (t : Token) → i < length ts → t ≡ get_or ts i t
    → drop i (pieces text n ts) ≡ piece text n t ∷ drop (suc i) (pieces text n ts)
first_piece text n [] i t lt at = absurd (omega (arith, lt))
first_piece text n (u ∷ ts) zero t lt at = ap (λ (v : Token). piece text n v ∷ pieces text n ts) (sym at)
first_piece text n (u ∷ ts) (suc i) t lt at = first_piece text n ts i t (omega (arith, lt)) at

past : (text : List ℕ) (n : ℕ) (ts : List Token) (i : ℕ) → length ts ≤ i → drop i (pieces text n ts) ≡ []
past text n [] i le = drop-nil i
past text n (t ∷ ts) zero le = absurd (omega (arith, le))
past text n (t ∷ ts) (suc i) le = past text n ts i (omega (arith, le))

-- the cursor behind its next token
abbrev pub advanced : Inside → Inside
advanced c = record c { index = c.index + 1 }

kind_is : (k : TokenKind) → ◌≡◌ {A = Option TokenKind} (Some k) (Some Word) → k ≡ Word
kind_is k is = cc

module _ (c : Inside) (t : Token) (lt : c.index < length c.tokens.now) (at : t ≡ get_or c.tokens.now c.index t) where
  abbrev end : Place
  end = end_of_text c.text.now c.file

  abbrev first : Piece
  first = piece c.text.now c.file t

  rest_is : rest_of c ≡ first ∷ rest_of (advanced c)
  rest_is = rw add-one (first_piece c.text.now c.file c.tokens.now c.index t lt at)

  ahead_is : ahead_at c ≡ ahead_of end (first ∷ rest_of (advanced c))
  ahead_is = ap (ahead_of end) rest_is

  pub next_at : next_of (ahead_at c) ≡ Some t.kind
  next_at = ap next_of ahead_is ∙ next_first end first (rest_of (advanced c)) ∙ ap (λ k. Some k) (kind-piece t.kind _ _)

  pub place_at : place_of (ahead_at c) ≡ record { file = c.file; line = t.line }
  place_at = ap place_of ahead_is ∙ place_first end first (rest_of (advanced c)) ∙ place-kind t.kind _ _

  pub word_at : next_of (ahead_at c) ≡ Some Word → word_of (ahead_at c) ≡ slice_range c.text.now t.from t.to
  word_at is = ap word_of ahead_is ∙ word-kind end t.kind _ _ (rest_of (advanced c)) (kind_is t.kind (sym next_at ∙ is))

  pub after_at : IsValid c → (ahead_at (advanced c) ≡ after (ahead_at c)) × IsValid (advanced c) × (suc (size (ahead_at (advanced c))) ≡ size (ahead_at c))
  unfolding size
  after_at v =
      let spelled : IsSpelled end (first ∷ rest_of (advanced c)) = subst (IsSpelled end) rest_is v.spelled in
      let b = after_first end first (rest_of (advanced c)) spelled in (
        sym (ap after ahead_is ∙ b.0),
        record { in_range = omega (arith, lt); lines_fit = v.lines_fit; lie = v.lie; spelled = b.1 },
        ap (λ (ps : List Piece). suc (length ps)) b.1 ∙ ap length (sym rest_is) ∙ ap length (sym v.spelled),
      )

-- nothing is left behind the last token
pub at_end : (c : Inside) → length c.tokens.now ≤ c.index → ahead_at c ≡ top none (end_of_text c.text.now c.file)
at_end c le = ap (ahead_of (end_of_text c.text.now c.file)) (past c.text.now c.file c.tokens.now c.index le)

-- where the end is not next, a token is
pub is_token : (c : Inside) → (next_of (ahead_at c) ≡ None → ⊥) → c.index < length c.tokens.now
unfolding next_of
is_token c not =
    elim (cases_lt c.index (length c.tokens.now)) [
      | inl lt ↦ lt
      | inr le ↦ absurd (not (ap next_of (at_end c le)))
    ]

same_at : (ts : List Token) (i : ℕ) (t u : Token) → i < length ts → get_or ts i t ≡ get_or ts i u
same_at [] i t u lt = absurd (omega (arith, lt))
same_at (v ∷ ts) zero t u lt = refl
same_at (v ∷ ts) (suc i) t u lt = same_at ts i t u (omega (arith, lt))

-- the token that is next, where one is
abbrev pub token_at : Inside → Token
token_at c = get_or c.tokens.now c.index (record { kind = Left; from = 0; to = 0; line = 0 })

is_token_at : (c : Inside) → c.index < length c.tokens.now → token_at c ≡ get_or c.tokens.now c.index (token_at c)
is_token_at c lt = same_at c.tokens.now c.index _ (token_at c) lt

word_not_end : (n : Option TokenKind) → n ≡ Some Word → n ≡ None → ⊥
word_not_end n e f = cc

module _ (c : Inside) (word : next_of (ahead_at c) ≡ Some Word) where
  pub has_token : c.index < length c.tokens.now
  has_token = is_token c (word_not_end _ word)

  pub next_word : slice_range c.text.now (token_at c).from (token_at c).to ≡ word_of (ahead_at c)
  next_word = sym (word_at c (token_at c) has_token (is_token_at c has_token) word)

pub next_after : (c : Inside) → IsValid c → (next_of (ahead_at c) ≡ None → ⊥) → (ahead_at (advanced c) ≡ after (ahead_at c)) × IsValid (advanced c) × (suc (size (ahead_at (advanced c))) ≡ size (ahead_at c))
next_after c v not = let lt = is_token c not in after_at c (token_at c) lt (is_token_at c lt) v
