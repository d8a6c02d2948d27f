-- What a query asks. It is read as tokens of PPDDL 1.0 (Younes and Littman 2004): the word `state`, and then atoms `( NAME NAME* )`, which
-- are those that are true. Their order and repeats do not matter.
--     Piece                   a parenthesis, or a word
--     pieces_of line          the tokens of the line; None where a byte stands that may not
--     atoms_in pieces         the atoms that the pieces spell, each by its names in small letters; None where they
--                             have another form
--     asked_in pieces         those behind the word `state`
--     numbers_of texts atoms  their places among these texts; None where one is not among them
--     Query                   no query by its form; a query of an atom that the problem has not; a query of a state
--     query_of g line         what the line asks of the problem
use Rattle.std.specs.Prelude.{ℕ, cond, List, [], ◌∷◌, ◌++◌, codes, Option, Some, None, option_map, Ok, Err, slice_range}
use Rattle.std.specs.Fmt.{option_append}
use Rattle.plain_list.specs.Texts.{list_text}
use Rattle.ppddl_lex.specs.declared.token.Token.{Token}
use Rattle.ppddl_lex.specs.declared.token_kind.TokenKind.TheVariants as kind
use Rattle.ppddl_lex.specs.Lexemes.{Lexeme, tokens_at}
use Rattle.ppddl_lex.specs.Words.{lowered, is_name, is_same_word}
use Rattle.ground_model.specs.Packed.{State}
use Rattle.ground_model.specs.Ground.{Ground}
use Rattle.ground_step.specs.Atoms.{state_of}
use Rattle.ground_step.specs.Names.{place_of}
use Rattle.bound_core.specs.Core.{width}

-- ---- tokens

pub data Piece : Type 0 where
  Left : Piece
  Right : Piece
  Word : List ℕ → Piece

abbrev pub piece_of : List ℕ → Token → Piece
piece_of line t = elim t.kind [
  | kind.Left ↦ Left
  | kind.Right ↦ Right
  | kind.Word ↦ Word (slice_range line t.from t.to)
]

abbrev pub with_piece : Piece → Option (List Piece) → Option (List Piece)
with_piece p None = None
with_piece p (Some ps) = Some (p ∷ ps)

abbrev pub pieces_from : List ℕ → List Lexeme → Option (List Piece)
pieces_from line [] = Some []
pieces_from line (Err e ∷ ls) = None
pieces_from line (Ok t ∷ ls) = with_piece (piece_of line t) (pieces_from line ls)

abbrev pub pieces_of : List ℕ → Option (List Piece)
pieces_of line = pieces_from line (tokens_at line 0 1)

-- ---- atoms

abbrev pub Names : Type 0
Names = List (List ℕ)

abbrev pub with_names : Names → Option (List Names) → Option (List Names)
with_names names None = None
with_names names (Some atoms) = Some (names ∷ atoms)

abbrev mutual
  pub atoms_in : List Piece → Option (List Names)
  atoms_in [] = Some []
  atoms_in (Left ∷ ps) = first_in ps
  atoms_in (Right ∷ ps) = None
  atoms_in (Word w ∷ ps) = None

  -- behind the parenthesis of an atom
  pub first_in : List Piece → Option (List Names)
  first_in [] = None
  first_in (Left ∷ ps) = None
  first_in (Right ∷ ps) = None
  first_in (Word w ∷ ps) = cond (is_name w) (names_in (lowered w ∷ []) ps) None

  -- behind these names of it
  pub names_in : Names → List Piece → Option (List Names)
  names_in names [] = None
  names_in names (Left ∷ ps) = None
  names_in names (Right ∷ ps) = with_names names (atoms_in ps)
  names_in names (Word w ∷ ps) = cond (is_name w) (names_in (names ++ lowered w ∷ []) ps) None

abbrev pub asked_in : List Piece → Option (List Names)
asked_in [] = None
asked_in (Left ∷ ps) = None
asked_in (Right ∷ ps) = None
asked_in (Word w ∷ ps) = cond (is_same_word w (codes "state")) (atoms_in ps) None

-- ---- the state

abbrev pub number_of : List (List ℕ) → Names → Option (List ℕ)
number_of texts names = option_map (λ n. n ∷ []) (place_of texts (list_text names))

abbrev pub numbers_of : List (List ℕ) → List Names → Option (List ℕ)
numbers_of texts [] = Some []
numbers_of texts (names ∷ atoms) = option_append (number_of texts names) (numbers_of texts atoms)

pub data Query : Type 0 where
  NoQuery : Query
  NoAtom : Query
  Asks : State → Query

abbrev pub query_for : Ground → Option (List ℕ) → Query
query_for g None = NoAtom
query_for g (Some numbers) = Asks (state_of numbers (width g))

abbrev pub query_behind : Ground → Option (List ℕ) → Option (List Names) → Query
query_behind g found None = NoQuery
query_behind g found (Some atoms) = query_for g (option_append found (numbers_of g.atoms atoms))

abbrev pub query_in : Ground → Option (List Piece) → Query
query_in g None = NoQuery
query_in g (Some ps) = query_behind g (Some []) (asked_in ps)

abbrev pub query_of : Ground → List ℕ → Query
query_of g line = query_in g (pieces_of line)
