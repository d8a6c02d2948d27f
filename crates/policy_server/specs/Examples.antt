-- Worked examples, which compute: lines, tokens and atoms of queries, and replies as texts.
use Rattle.std.specs.Prelude.{◌≡◌, [], ◌∷◌, codes, Some, None, true, false}
use Rattle.std.proofs.Common.{refl}
use Rattle.policy_server.specs.Lines.{cut_of, cut_with, queries_of}
use Rattle.policy_server.specs.Queries.{pieces_of, asked_in, Left, Right, Word}
use Rattle.policy_server.specs.Parts.{in_pieces}

two_lines : cut_of (codes "a\nb\n") ≡ cut_with (codes "a" ∷ codes "b" ∷ []) []
two_lines = refl

the_last_line_counts : queries_of (codes "a\n\nb") true ≡ codes "a" ∷ [] ∷ codes "b" ∷ []
the_last_line_counts = refl

if_the_input_ended : queries_of (codes "a\n\nb") false ≡ codes "a" ∷ [] ∷ []
if_the_input_ended = refl

an_empty_rest_is_no_line : queries_of (codes "a\n") true ≡ codes "a" ∷ []
an_empty_rest_is_no_line = refl

tokens_of_a_line :
    pieces_of (codes "state (DONE)") ≡ Some (Word (codes "state") ∷ Left ∷ Word (codes "DONE") ∷ Right ∷ [])
tokens_of_a_line = refl

names_in_small_letters :
    in_pieces asked_in (pieces_of (codes "State (DONE)")) ≡ Some ((codes "done" ∷ []) ∷ [])
names_in_small_letters = refl

atoms_of_a_line :
    in_pieces asked_in (pieces_of (codes "state (at l1)(ok) ; here"))
    ≡ Some ((codes "at" ∷ codes "l1" ∷ []) ∷ (codes "ok" ∷ []) ∷ [])
atoms_of_a_line = refl

no_atoms : in_pieces asked_in (pieces_of (codes "state")) ≡ Some []
no_atoms = refl

an_empty_line : in_pieces asked_in (pieces_of []) ≡ None
an_empty_line = refl

an_atom_without_names : in_pieces asked_in (pieces_of (codes "state ()")) ≡ None
an_atom_without_names = refl

a_reserved_word : in_pieces asked_in (pieces_of (codes "state (and)")) ≡ None
a_reserved_word = refl

not_closed : in_pieces asked_in (pieces_of (codes "state (at l1")) ≡ None
not_closed = refl
