-- What lies ahead of pieces that it spells, by the first of them.
use Rattle.std.proofs.Common.{◌≡◌, ℕ, List, [], ◌∷◌, ◌++◌, Some, refl, sym, ap, ◌∙◌, append_assoc}
use Rattle.std.proofs.lemmas.List.{append-nil}
use Rattle.ppddl_cursor.specs.declared.place.Place.{Place}
use Rattle.ppddl_lex.specs.declared.token_kind.TokenKind.{TokenKind}
use Rattle.ppddl_lex.specs.declared.token_kind.TokenKind.TheVariants.{Left, Right, Word}
use Rattle.ppddl_cursor.specs.Forms.{Piece, left, right, word, Form, Forms, lone, group, none, spell, spell_all, begin_of}
use Rattle.ppddl_cursor.specs.Ahead.{Ahead, top, inner, put, put_left, ahead_of, pieces_of, after, next_of, kind_of, place_of, word_of}
use Rattle.ppddl_cursor.specs.Stored.{ahead-spell_all, put_all-inner}

-- what lies ahead of pieces spells them: each parenthesis that opens among them also closes
abbrev pub IsSpelled : Place → List Piece → Type 0
IsSpelled e ps = pieces_of (ahead_of e ps) ≡ ps

pub pieces-put : (f : Form) (h : Ahead) → pieces_of (put f h) ≡ spell f ++ pieces_of h
pieces-put f (top fs e) = refl
pieces-put f (inner fs b out) = append_assoc (spell f) (spell_all fs) (right b ∷ pieces_of out)

-- a `(` that opens the innermost group
pub pieces-put_left : (a b : Place) (fs : Forms) (out : Ahead) → pieces_of (put_left a (inner fs b out)) ≡ left a ∷ pieces_of (inner fs b out)
pieces-put_left a b fs out =
    pieces-put (group a fs b) out ∙ ap (λ (ps : List Piece). left a ∷ ps) (append_assoc (spell_all fs) (right b ∷ []) (pieces_of out))

after-put_word : (w : List ℕ) (a : Place) (h : Ahead) → after (put (lone w a) h) ≡ h
unfolding after
after-put_word w a (top fs e) = refl
after-put_word w a (inner fs b out) = refl

after-put_group : (a b : Place) (fs : Forms) (h : Ahead) → after (put (group a fs b) h) ≡ inner fs b h
unfolding after
after-put_group a b fs (top gs e) = refl
after-put_group a b fs (inner gs c out) = refl

tail_is : (p : Piece) (ps qs : List Piece) → p ∷ ps ≡ p ∷ qs → ps ≡ qs
tail_is p ps qs e = cc

-- a group that only the end of the text closes spells a `)` that is not there
not_top : (e b : Place) (fs : Forms) (ps : List Piece) → ahead_of e ps ≡ top fs b → ps ≡ (spell_all fs ++ right b ∷ []) ++ [] → ⊥
not_top e b fs ps at is =
    let closed : ahead_of e ps ≡ inner fs b (top none e) =
    ap (ahead_of e) (is ∙ append-nil (spell_all fs ++ right b ∷ [])) ∙ ahead-spell_all e fs (right b ∷ []) ∙ put_all-inner fs b (top none e) in
    let differ : top fs b ≡ inner fs b (top none e) = sym at ∙ closed in
    cc

after-left : (e a : Place) (ps : List Piece) (h : Ahead) → ahead_of e ps ≡ h → pieces_of (put_left a h) ≡ left a ∷ ps → (after (put_left a h) ≡ h) × (pieces_of h ≡ ps)
unfolding after
after-left e a ps (top fs b) at spelled =
    absurd (not_top e b fs ps at (sym (tail_is (left a) ((spell_all fs ++ right b ∷ []) ++ []) ps spelled)))
after-left e a ps (inner fs b out) at spelled =
    (after-put_group a b fs out, tail_is (left a) (pieces_of (inner fs b out)) ps (sym (pieces-put_left a b fs out) ∙ spelled))

-- behind the first piece lies what is ahead of the others
pub after_first : (e : Place) (p : Piece) (ps : List Piece) → IsSpelled e (p ∷ ps) → (after (ahead_of e (p ∷ ps)) ≡ ahead_of e ps) × IsSpelled e ps
unfolding after
after_first e (left a) ps spelled = after-left e a ps (ahead_of e ps) refl spelled
after_first e (right b) ps spelled = (refl, tail_is (right b) (pieces_of (ahead_of e ps)) ps spelled)
after_first e (word w a) ps spelled =
    (after-put_word w a (ahead_of e ps), tail_is (word w a) (pieces_of (ahead_of e ps)) ps (sym (pieces-put (lone w a) (ahead_of e ps)) ∙ spelled))

-- ---- the first piece

abbrev pub kind_of_piece : Piece → TokenKind
kind_of_piece (left a) = Left
kind_of_piece (right b) = Right
kind_of_piece (word w a) = Word

abbrev pub place_of_piece : Piece → Place
place_of_piece (left a) = a
place_of_piece (right b) = b
place_of_piece (word w a) = a

next-put : (f : Form) (h : Ahead) → next_of (put f h) ≡ Some (kind_of f)
unfolding next_of
next-put f (top fs e) = refl
next-put f (inner fs b out) = refl

next-put_left : (a : Place) (h : Ahead) → next_of (put_left a h) ≡ Some Left
unfolding next_of
next-put_left a (top fs e) = refl
next-put_left a (inner fs b out) = next-put (group a fs b) out

pub next_first : (e : Place) (p : Piece) (ps : List Piece) → next_of (ahead_of e (p ∷ ps)) ≡ Some (kind_of_piece p)
unfolding next_of
next_first e (left a) ps = next-put_left a (ahead_of e ps)
next_first e (right b) ps = refl
next_first e (word w a) ps = next-put (lone w a) (ahead_of e ps)

place-put : (f : Form) (h : Ahead) → place_of (put f h) ≡ begin_of f
unfolding place_of
place-put f (top fs e) = refl
place-put f (inner fs b out) = refl

place-put_left : (a : Place) (h : Ahead) → place_of (put_left a h) ≡ a
unfolding place_of
place-put_left a (top fs e) = refl
place-put_left a (inner fs b out) = place-put (group a fs b) out

pub place_first : (e : Place) (p : Piece) (ps : List Piece) → place_of (ahead_of e (p ∷ ps)) ≡ place_of_piece p
unfolding place_of
place_first e (left a) ps = place-put_left a (ahead_of e ps)
place_first e (right b) ps = refl
place_first e (word w a) ps = place-put (lone w a) (ahead_of e ps)

word-put : (w : List ℕ) (a : Place) (h : Ahead) → word_of (put (lone w a) h) ≡ w
unfolding word_of
word-put w a (top fs e) = refl
word-put w a (inner fs b out) = refl

pub word_first : (e : Place) (w : List ℕ) (a : Place) (ps : List Piece) → word_of (ahead_of e (word w a ∷ ps)) ≡ w
unfolding word_of
word_first e w a ps = word-put w a (ahead_of e ps)
