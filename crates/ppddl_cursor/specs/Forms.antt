-- Pieces of a text, and the forms (S-expressions) that they spell. Each knows its places.
--     Piece             `(`, `)` or a word, and where it stands
--     Form              a word, or a group: forms between parentheses
--     Forms             forms in order
--     spell f           the pieces of a form
--     lowered_form f    the form with its words in lower case
use Rattle.std.specs.Prelude.{ℕ, List, [], ◌∷◌, ◌++◌}
use Rattle.ppddl_lex.specs.Words.{lowered}
use Rattle.ppddl_cursor.specs.declared.place.Place.{Place}

pub data Piece : Type 0 where
  left : Place → Piece
  right : Place → Piece
  word : List ℕ → Place → Piece

mutual
  pub data Form : Type 0 where
    lone : List ℕ → Place → Form
    group : Place → Forms → Place → Form

  pub data Forms : Type 0 where
    none : Forms
    more : Form → Forms → Forms

abbrev mutual
  pub spell : Form → List Piece
  spell (lone w a) = word w a ∷ []
  spell (group a fs b) = left a ∷ (spell_all fs ++ right b ∷ [])

  pub spell_all : Forms → List Piece
  spell_all none = []
  spell_all (more f fs) = spell f ++ spell_all fs

abbrev mutual
  pub lowered_form : Form → Form
  lowered_form (lone w a) = lone (lowered w) a
  lowered_form (group a fs b) = group a (lowered_forms fs) b

  pub lowered_forms : Forms → Forms
  lowered_forms none = none
  lowered_forms (more f fs) = more (lowered_form f) (lowered_forms fs)

-- where a form begins
abbrev pub begin_of : Form → Place
begin_of (lone w a) = a
begin_of (group a fs b) = a
