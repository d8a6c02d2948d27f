-- How the logic stores what lies ahead: as its pieces and the end of the text, from which it comes back.
--     ahead-pieces     it comes back
--     ahead_code       the code by which the logic tells two values apart
use Rattle.std.specs.Prelude.{◌≡◌, ℕ, List, [], ◌∷◌, ◌++◌, refl}
use Rattle.std.specs.Coded.{Coded, code_by, coded×, coded⊎, coded_list, coded_ℕ}
use Rattle.std.proofs.Common.{ap, sym, ◌∙◌, append_assoc, ◌⊎◌, inl, inr}
use Rattle.std.proofs.lemmas.List.{append-nil}
use Rattle.ppddl_cursor.specs.declared.place.Place.{Place}
use Rattle.ppddl_cursor.specs.Forms.{Piece, left, right, word, Form, Forms, lone, group, none, more, spell, spell_all}
use Rattle.ppddl_cursor.specs.Ahead.{Ahead, top, inner, put, put_left, ahead_of, pieces_of, end_of}

-- forms in front of what lies ahead
abbrev pub put_all : Forms → Ahead → Ahead
put_all none h = h
put_all (more f fs) h = put f (put_all fs h)

pub put_all-top : (fs : Forms) (e : Place) → put_all fs (top none e) ≡ top fs e
put_all-top none e = refl
put_all-top (more f fs) e = ap (put f) (put_all-top fs e)

pub put_all-inner : (fs : Forms) (b : Place) (out : Ahead) → put_all fs (inner none b out) ≡ inner fs b out
put_all-inner none b out = refl
put_all-inner (more f fs) b out = ap (put f) (put_all-inner fs b out)

mutual
  pub ahead-spell : (e : Place) (f : Form) (ps : List Piece) → ahead_of e (spell f ++ ps) ≡ put f (ahead_of e ps)
  ahead-spell e (lone w a) ps = refl
  ahead-spell e (group a fs b) ps =
      ap (λ (qs : List Piece). put_left a (ahead_of e qs)) (append_assoc (spell_all fs) (right b ∷ []) ps)
      ∙ ap (put_left a) (ahead-spell_all e fs (right b ∷ ps) ∙ put_all-inner fs b (ahead_of e ps))

  pub ahead-spell_all : (e : Place) (fs : Forms) (ps : List Piece) → ahead_of e (spell_all fs ++ ps) ≡ put_all fs (ahead_of e ps)
  ahead-spell_all e none ps = refl
  ahead-spell_all e (more f fs) ps =
      ap (ahead_of e) (append_assoc (spell f) (spell_all fs) ps) ∙ ahead-spell e f (spell_all fs ++ ps) ∙ ap (put f) (ahead-spell_all e fs ps)

pub ahead-pieces : (h : Ahead) → ahead_of (end_of h) (pieces_of h) ≡ h
ahead-pieces (top fs e) =
    ap (ahead_of e) (sym (append-nil (spell_all fs))) ∙ ahead-spell_all e fs [] ∙ put_all-top fs e
ahead-pieces (inner fs b out) =
    ahead-spell_all (end_of out) fs (right b ∷ pieces_of out) ∙ put_all-inner fs b (ahead_of (end_of out) (pieces_of out)) ∙ ap (inner fs b) (ahead-pieces out)

abbrev place_code : Coded Place
place_code = code_by (ℕ × ℕ) (coded× coded_ℕ coded_ℕ) (λ p. (p.file, p.line)) (λ p. record { file = p.0; line = p.1 }) (λ _. refl)

abbrev from_piece : Piece → Place ⊎ (Place ⊎ (List ℕ × Place))
from_piece (left a) = inl a
from_piece (right b) = inr (inl b)
from_piece (word w a) = inr (inr (w, a))

abbrev to_piece : Place ⊎ (Place ⊎ (List ℕ × Place)) → Piece
to_piece (inl a) = left a
to_piece (inr (inl b)) = right b
to_piece (inr (inr p)) = word p.0 p.1

pub to_from_piece : (p : Piece) → to_piece (from_piece p) ≡ p
to_from_piece (left a) = refl
to_from_piece (right b) = refl
to_from_piece (word w a) = refl

abbrev piece_code : Coded Piece
piece_code = code_by (Place ⊎ (Place ⊎ (List ℕ × Place))) (coded⊎ place_code (coded⊎ place_code (coded× (coded_list coded_ℕ) place_code))) from_piece to_piece to_from_piece

abbrev pub ahead_code : Coded Ahead
ahead_code = code_by (List Piece × Place) (coded× (coded_list piece_code) place_code) (λ h. (pieces_of h, end_of h)) (λ p. ahead_of p.1 p.0) ahead-pieces
