-- What is read is in the grammar of queries, and nothing else is.
use Rattle.std.proofs.Common.{◌≡◌, ℕ, Bool, true, false, cond, List, [], ◌∷◌, ◌++◌, map, codes, Option, Some, None, refl, sym, ap, ◌∙◌, append_assoc, arith}
use Rattle.std.specs.List.{AllByRecursion}
use Rattle.std.proofs.lemmas.List.{append-nil}
use Rattle.ppddl_lex.specs.Words.{lowered, is_name, is_same_word}
use Rattle.policy_server.specs.Queries.{Piece, Left, Right, Word, Names, with_names, atoms_in, first_in, names_in, asked_in}
use Rattle.policy_server.specs.Laws.{spelled, IsAtom, IsQuery, in_small_letters, QueriesAreRead, OnlyQueriesAreRead}

-- ---- what is in the grammar is read

names_read : (done names : Names) (ps : List Piece) → AllByRecursion (λ w. is_name w ≡ true) names
    → names_in done (map Word names ++ Right ∷ ps) ≡ with_names (done ++ map lowered names) (atoms_in ps)
names_read done [] ps each = ap (λ (x : Names). with_names x (atoms_in ps)) (sym (append-nil done))
names_read done (w ∷ ws) ps each =
    ap (λ b. cond b (names_in (done ++ lowered w ∷ []) (map Word ws ++ Right ∷ ps)) None) each.0
    ∙ (names_read (done ++ lowered w ∷ []) ws ps each.1 ∙ ap (λ (x : Names). with_names x (atoms_in ps)) (append_assoc done (lowered w ∷ []) (map lowered ws)))

first_read : (names : Names) (ps : List Piece) → IsAtom names → first_in (map Word names ++ Right ∷ ps) ≡ with_names (map lowered names) (atoms_in ps)
first_read [] ps is = absurd (let some = is.some in omega arith)
first_read (w ∷ ws) ps is =
    ap (λ b. cond b (names_in (lowered w ∷ []) (map Word ws ++ Right ∷ ps)) None) is.each.0 ∙ names_read (lowered w ∷ []) ws ps is.each.1

atoms_read : (atoms : List Names) → AllByRecursion IsAtom atoms → atoms_in (spelled atoms) ≡ Some (in_small_letters atoms)
atoms_read [] each = refl
atoms_read (names ∷ atoms) each =
    ap first_in (append_assoc (map Word names) (Right ∷ []) (spelled atoms))
    ∙ (first_read names (spelled atoms) each.0 ∙ ap (with_names (map lowered names)) (atoms_read atoms each.1))

pub queries_are_read : QueriesAreRead
queries_are_read ps atoms is =
    ap asked_in is.whole ∙ (ap (λ b. cond b (atoms_in (spelled atoms)) None) is.is_state ∙ atoms_read atoms is.each)

-- ---- what is read is in the grammar

chosen : (b : Bool) (x : Option (List Names)) (asked : List Names) → cond b x None ≡ Some asked → (b ≡ true) × (x ≡ Some asked)
chosen true x asked h = (refl, h)
chosen false x asked h = absurd cc

in_front : (names : Names) (rest : Option (List Names)) (asked : List Names) → with_names names rest ≡ Some asked
    → (atoms : List Names) × (rest ≡ Some atoms) × (asked ≡ names ∷ atoms)
in_front names None asked h = absurd cc
in_front names (Some atoms) asked h = (atoms, refl, cc)

-- atoms that tokens spell
record AreSpelled (ps : List Piece) (asked : List Names) : Type 0 where
  atoms : List Names
  whole : ps ≡ spelled atoms
  each : AllByRecursion IsAtom atoms
  are : asked ≡ in_small_letters atoms

-- the rest of an atom behind some names, and atoms behind it
record RestIsSpelled (done : Names) (ps : List Piece) (asked : List Names) : Type 0 where
  names : Names
  atoms : List Names
  whole : ps ≡ map Word names ++ Right ∷ spelled atoms
  named : AllByRecursion (λ w. is_name w ≡ true) names
  each : AllByRecursion IsAtom atoms
  are : asked ≡ (done ++ map lowered names) ∷ in_small_letters atoms

last_name : (done : Names) (ps : List Piece) (asked : List Names) (found : (atoms : List Names) × (atoms_in ps ≡ Some atoms) × (asked ≡ done ∷ atoms))
    → AreSpelled ps found.0 → RestIsSpelled done (Right ∷ ps) asked
last_name done ps asked found rest = record {
  names = [];
  atoms = rest.atoms;
  whole = ap (λ l. Right ∷ l) rest.whole;
  named = tt;
  each = rest.each;
  are = found.2 ∙ (ap (λ l. done ∷ l) rest.are ∙ ap (λ x. x ∷ in_small_letters rest.atoms) (sym (append-nil done)));
}

one_name : (done : Names) (w : List ℕ) (ps : List Piece) (asked : List Names) → is_name w ≡ true → RestIsSpelled (done ++ lowered w ∷ []) ps asked
    → RestIsSpelled done (Word w ∷ ps) asked
one_name done w ps asked is rest = record {
  names = w ∷ rest.names;
  atoms = rest.atoms;
  whole = ap (λ l. Word w ∷ l) rest.whole;
  named = (is, rest.named);
  each = rest.each;
  are = rest.are ∙ ap (λ x. x ∷ in_small_letters rest.atoms) (append_assoc done (lowered w ∷ []) (map lowered rest.names));
}

one_atom : (w : List ℕ) (ps : List Piece) (asked : List Names) → is_name w ≡ true → RestIsSpelled (lowered w ∷ []) ps asked
    → AreSpelled (Left ∷ Word w ∷ ps) asked
one_atom w ps asked is rest = record {
  atoms = (w ∷ rest.names) ∷ rest.atoms;
  whole = ap (λ l. Left ∷ Word w ∷ l) (rest.whole ∙ sym (append_assoc (map Word rest.names) (Right ∷ []) (spelled rest.atoms)));
  each = (record { some = omega arith; each = (is, rest.named) }, rest.each);
  are = rest.are;
}

mutual
  atoms_spelled : (ps : List Piece) (asked : List Names) → atoms_in ps ≡ Some asked → AreSpelled ps asked
  atoms_spelled [] asked h = record { atoms = []; whole = refl; each = tt; are = cc }
  atoms_spelled (Left ∷ ps) asked h = first_spelled ps asked h
  atoms_spelled (Right ∷ ps) asked h = absurd cc
  atoms_spelled (Word w ∷ ps) asked h = absurd cc

  first_spelled : (ps : List Piece) (asked : List Names) → first_in ps ≡ Some asked → AreSpelled (Left ∷ ps) asked
  first_spelled [] asked h = absurd cc
  first_spelled (Left ∷ ps) asked h = absurd cc
  first_spelled (Right ∷ ps) asked h = absurd cc
  first_spelled (Word w ∷ ps) asked h =
      let c = chosen (is_name w) (names_in (lowered w ∷ []) ps) asked h in one_atom w ps asked c.0 (names_spelled (lowered w ∷ []) ps asked c.1)

  names_spelled : (done : Names) (ps : List Piece) (asked : List Names) → names_in done ps ≡ Some asked → RestIsSpelled done ps asked
  names_spelled done [] asked h = absurd cc
  names_spelled done (Left ∷ ps) asked h = absurd cc
  names_spelled done (Right ∷ ps) asked h =
      let found = in_front done (atoms_in ps) asked h in last_name done ps asked found (atoms_spelled ps found.0 found.1)
  names_spelled done (Word w ∷ ps) asked h =
      let c = chosen (is_name w) (names_in (done ++ lowered w ∷ []) ps) asked h in
      one_name done w ps asked c.0 (names_spelled (done ++ lowered w ∷ []) ps asked c.1)

behind_state : (w : List ℕ) (ps : List Piece) (asked : List Names) → (is_same_word w (codes "state") ≡ true) × (atoms_in ps ≡ Some asked)
    → (atoms : List Names) × IsQuery (Word w ∷ ps) atoms × (asked ≡ in_small_letters atoms)
behind_state w ps asked h =
    let are = atoms_spelled ps asked h.1 in
    (are.atoms, record { word = w; is_state = h.0; whole = ap (λ l. Word w ∷ l) are.whole; each = are.each }, are.are)

pub only_queries_are_read : OnlyQueriesAreRead
only_queries_are_read [] asked h = absurd cc
only_queries_are_read (Left ∷ ps) asked h = absurd cc
only_queries_are_read (Right ∷ ps) asked h = absurd cc
only_queries_are_read (Word w ∷ ps) asked h = behind_state w ps asked (chosen (is_same_word w (codes "state")) (atoms_in ps) asked h)
