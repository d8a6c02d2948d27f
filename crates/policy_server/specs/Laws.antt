-- The grammar of queries, `state ( NAME NAME* )*`, and the laws that these are what is read.
--     spelled_atom names      the tokens of an atom
--     spelled atoms           those of atoms, one after another
--     IsAtom names            one name or more
--     IsQuery ps atoms        the tokens are the word `state`, in any letters, and then these atoms
--     QueriesAreRead          a query asks for its atoms, in small letters
--     OnlyQueriesAreRead      what asks for atoms is a query
use Rattle.std.specs.Prelude.{◌≡◌, ℕ, ◌<◌, true, List, [], ◌∷◌, ◌++◌, length, map, codes, Some}
use Rattle.std.specs.List.{AllByRecursion}
use Rattle.ppddl_lex.specs.Words.{lowered, is_name, is_same_word}
use Rattle.policy_server.specs.Queries.{Piece, Left, Right, Word, Names, asked_in}

abbrev pub spelled_atom : Names → List Piece
spelled_atom names = Left ∷ map Word names ++ Right ∷ []

abbrev pub spelled : List Names → List Piece
spelled [] = []
spelled (names ∷ atoms) = spelled_atom names ++ spelled atoms

pub record IsAtom (names : Names) : Type 0 where
  pub some : 0 < length names
  pub each : AllByRecursion (λ w. is_name w ≡ true) names

pub record IsQuery (ps : List Piece) (atoms : List Names) : Type 0 where
  pub word : List ℕ
  pub is_state : is_same_word word (codes "state") ≡ true
  pub whole : ps ≡ Word word ∷ spelled atoms
  pub each : AllByRecursion IsAtom atoms

abbrev pub in_small_letters : List Names → List Names
in_small_letters atoms = map (λ names. map lowered names) atoms

abbrev pub QueriesAreRead : Type 0
QueriesAreRead = (ps : List Piece) (atoms : List Names) → IsQuery ps atoms
    → asked_in ps ≡ Some (in_small_letters atoms)

abbrev pub OnlyQueriesAreRead : Type 0
OnlyQueriesAreRead = (ps : List Piece) (asked : List Names) → asked_in ps ≡ Some asked
    → (atoms : List Names) × IsQuery ps atoms × (asked ≡ in_small_letters atoms)
