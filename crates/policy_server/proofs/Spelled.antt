-- Readers of queries: what a step over the tokens ahead leaves of what they spell.
use Rattle.std.proofs.Common.{◌≡◌, ℕ, ◌+◌, ◌<◌, ◌≤◌, Bool, true, false, ◌&&◌, cond, List, [], ◌∷◌, ◌++◌, length, codes, Option, Some, None, Ok, refl, sym, ap, ◌∙◌, subst, append_assoc, arith}
use Rattle.std.specs.Prelude.{take, get_or, nat_eq, ◌||◌, option_map}
use Rattle.std.specs.Char.{to_ascii_lowercase}
use Rattle.std.specs.Fmt.{option_append}
use Rattle.std.specs.List.{join_with_byte}
use Rattle.std.proofs.lemmas.List.{append-nil, map-append, take_more}
use Rattle.plain_list.specs.Texts.{list_text}
use Rattle.ppddl_lex.specs.declared.token.Token.{Token}
use Rattle.ppddl_lex.specs.Lexemes.{tokens_at, LiesBehind}
use Rattle.ppddl_lex.specs.Words.{lowered, is_name}
use Rattle.ground_model.specs.Packed.{State, packed, has_bit}
use Rattle.ground_model.proofs.Packed.{length-packed}
use Rattle.ground_model.specs.Ground.{Ground}
use Rattle.ground_step.specs.Edits.{with_atom, with_atoms}
use Rattle.ground_step.specs.Names.{place_of}
use Rattle.ground_step.proofs.Edits.{with_atoms-none}
use Rattle.bound_core.specs.Core.{width}
use Rattle.policy_server.specs.declared.place.Place.{Place}
use Rattle.policy_server.specs.Queries.{Piece, Left, Right, Word, Names, piece_of, pieces_from, with_piece, with_names, atoms_in, first_in, names_in, number_of, numbers_of, Asks, query_for, query_behind}
use Rattle.policy_server.specs.Parts.{IsPlace, ahead, Passes, in_pieces, IsAtom, AddsAtom}

-- ---- tokens

pub token_ahead : (line : List ℕ) (p q : Place) (t : Token) → tokens_at line p.offset p.row ≡ Ok t ∷ tokens_at line t.to t.line
    → q.offset ≡ t.to → q.row ≡ t.line → ahead line p ≡ with_piece (piece_of line t) (ahead line q)
token_ahead line p q t next to row =
    ap (pieces_from line) next ∙ ap (λ n. with_piece (piece_of line t) (pieces_from line (tokens_at line n t.line))) (sym to)
    ∙ ap (λ n. with_piece (piece_of line t) (pieces_from line (tokens_at line q.offset n))) (sym row)

pub passes : (line : List ℕ) (p q : Place) (t : Token) (piece : Piece) (from : ℕ) → tokens_at line p.offset p.row ≡ Ok t ∷ tokens_at line t.to t.line
    → LiesBehind p.offset p.row (length line) t → IsPlace line p → q.offset ≡ t.to → q.row ≡ t.line → piece_of line t ≡ piece → p.offset ≤ from → from ≤ t.from
    → Passes line p piece from q
passes line p q t piece from next lies at to row is behind before = record {
  next = token_ahead line p q t next to row ∙ ap (λ x. with_piece x (ahead line q)) is;
  at = record {
    within = (let a = lies.within in omega arith);
    rows = (let a = lies.lines in let b = lies.nonempty in let c = at.rows in omega arith);
  };
  behind = behind;
  nonempty = (let a = lies.nonempty in omega arith);
}

-- ---- atoms

pub opens : (a : Option (List Piece)) → in_pieces atoms_in (with_piece Left a) ≡ in_pieces first_in a
opens None = refl
opens (Some ps) = refl

pub first_name : (a : Option (List Piece)) (w : List ℕ) → is_name w ≡ true → in_pieces first_in (with_piece (Word w) a) ≡ in_pieces (names_in (lowered w ∷ [])) a
first_name None w is = refl
first_name (Some ps) w is = ap (λ b. cond b (names_in (lowered w ∷ []) ps) None) is

pub next_name : (names : Names) (a : Option (List Piece)) (w : List ℕ) → is_name w ≡ true
    → in_pieces (names_in names) (with_piece (Word w) a) ≡ in_pieces (names_in (names ++ lowered w ∷ [])) a
next_name names None w is = refl
next_name names (Some ps) w is = ap (λ b. cond b (names_in (names ++ lowered w ∷ []) ps) None) is

pub closes : (names : Names) (a : Option (List Piece)) → in_pieces (names_in names) (with_piece Right a) ≡ with_names names (in_pieces atoms_in a)
closes names None = refl
closes names (Some ps) = refl

-- the text of an atom up to its last name
abbrev pub opened : Names → List ℕ
opened names = codes "(" ++ join_with_byte 32 names

join_more : (n : List ℕ) (ns : Names) (w : List ℕ) → join_with_byte 32 ((n ∷ ns) ++ w ∷ []) ≡ join_with_byte 32 (n ∷ ns) ++ (32 ∷ w)
join_more n [] w = refl
join_more n (m ∷ ns) w = ap (λ l. n ++ (32 ∷ l)) (join_more m ns w) ∙ sym (append_assoc n (32 ∷ join_with_byte 32 (m ∷ ns)) (32 ∷ w))

pub opened_more : (n : List ℕ) (ns : Names) (w : List ℕ) → opened ((n ∷ ns) ++ w ∷ []) ≡ (opened (n ∷ ns) ++ 32 ∷ []) ++ w
opened_more n ns w = ap (λ l. 40 ∷ l) (join_more n ns w ∙ sym (append_assoc (join_with_byte 32 (n ∷ ns)) (32 ∷ []) w))

-- a reader behind some names of an atom
pub record Naming (line : List ℕ) (first now : Place) (text : List ℕ) : Type 0 where
  pub name : List ℕ
  pub names : Names
  pub spelled : in_pieces first_in (ahead line first) ≡ in_pieces (names_in (name ∷ names)) (ahead line now)
  pub text_is : text ≡ opened (name ∷ names)

-- ---- queries

append_nothing : (found : Option (List ℕ)) → option_append found (Some []) ≡ found
append_nothing None = refl
append_nothing (Some ns) = ap Some (append-nil ns)

append_again : (a b c : Option (List ℕ)) → option_append (option_append a b) c ≡ option_append a (option_append b c)
append_again None b c = refl
append_again (Some x) None c = refl
append_again (Some x) (Some y) None = refl
append_again (Some x) (Some y) (Some z) = ap Some (append_assoc x y z)

pub one_atom : (g : Ground) (found : Option (List ℕ)) (names : Names) (rest : Option (List Names))
    → query_behind g found (with_names names rest) ≡ query_behind g (option_append found (number_of g.atoms names)) rest
one_atom g found names None = refl
one_atom g found names (Some atoms) = ap (query_for g) (sym (append_again found (number_of g.atoms names) (numbers_of g.atoms atoms)))

pub no_more : (g : Ground) (found : Option (List ℕ)) → query_behind g found (Some []) ≡ query_for g found
no_more g found = ap (query_for g) (append_nothing found)

-- what a reader has written once it found these numbers
abbrev pub HasRead : ℕ → Option (List ℕ) → Bool → State → Type 0
HasRead n None known s = known ≡ false
HasRead n (Some numbers) known s = (known ≡ true) × (s ≡ with_atoms (packed (λ _. false) n) numbers)

with_atoms-last : (s : State) (ns : List ℕ) (a : ℕ) → with_atoms s (ns ++ a ∷ []) ≡ with_atom (with_atoms s ns) a
with_atoms-last s [] a = refl
with_atoms-last s (n ∷ ns) a = with_atoms-last (with_atom s n) ns a

abbrev one : Option ℕ → Option (List ℕ)
one None = None
one (Some a) = Some (a ∷ [])

one_is : (place : Option ℕ) → one place ≡ option_map (λ n. n ∷ []) place
one_is None = refl
one_is (Some a) = refl

-- the numbers that were found, with those of one atom more
pub read_more : (n : ℕ) (found : Option (List ℕ)) (place : Option ℕ) (known is : Bool) (s t : State) → HasRead n found known s → AddsAtom place is s t
    → HasRead n (option_append found (one place)) (known && is) t
read_more n None None known is s t a b = ap (λ x. x && is) a
read_more n None (Some p) known is s t a b = ap (λ x. x && is) a
read_more n (Some ns) None known is s t a b = ap (λ x. known && x) b.0 ∙ ap (λ x. x && false) a.0
read_more n (Some ns) (Some p) known is s t a b =
    (ap (λ x. x && is) a.0 ∙ b.0, b.1 ∙ ap (λ x. with_atom x p) a.1 ∙ sym (with_atoms-last (packed (λ _. false) n) ns p))

pub wide_more : (place : Option ℕ) (is : Bool) (s t : State) → AddsAtom place is s t → length t ≡ length s
wide_more None is s t a = ap length a.1
wide_more (Some p) is s t a = ap length a.1 ∙ length-packed (λ q. nat_eq q p || has_bit s q) (length s)

pub query_is : (g : Ground) (found : Option (List ℕ)) (known : Bool) (s : State) → HasRead (width g) found known s → known ≡ true → query_for g found ≡ Asks s
query_is g None known s read is = absurd cc
query_is g (Some ns) known s read is = ap Asks (sym (read.1 ∙ with_atoms-none (width g) ns))

-- a reader of atoms behind some of them
pub record Reading (g : Ground) (line : List ℕ) (first now : Place) (known : Bool) (s : State) : Type 0 where
  pub found : Option (List ℕ)
  pub has_read : HasRead (width g) found known s
  pub same : query_behind g (Some []) (in_pieces atoms_in (ahead line first)) ≡ query_behind g found (in_pieces atoms_in (ahead line now))

pub reading_begins : (g : Ground) (line : List ℕ) (p : Place) (s : State) (n : ℕ) → s ≡ packed (λ _. false) n → n ≡ width g → Reading g line p p true s
reading_begins g line p s n is wide = record { found = Some []; has_read = (refl, is ∙ ap (packed (λ _. false)) wide); same = refl }

pub reading_more : (g : Ground) (line : List ℕ) (first p q r : Place) (known is : Bool) (s t : State) (text : List ℕ) → Reading g line first p known s
    → Passes line p Left p.offset q → IsAtom line q text r → AddsAtom (place_of g.atoms text) is s t → Reading g line first r (known && is) t
reading_more g line first p q r known is s t text so left atom adds = record {
  found = option_append so.found (number_of g.atoms atom.names);
  has_read = subst (λ (o : Option (List ℕ)). HasRead (width g) (option_append so.found o) (known && is) t) (one_is (place_of g.atoms (list_text atom.names)))
      (read_more (width g) so.found (place_of g.atoms (list_text atom.names)) known is s t so.has_read
      (subst (λ (l : List ℕ). AddsAtom (place_of g.atoms l) is s t) atom.text_is adds));
  same = so.same ∙ (ap (query_behind g so.found) (ap (in_pieces atoms_in) left.next ∙ (opens (ahead line q) ∙ atom.atom)) ∙ one_atom g so.found atom.names (in_pieces atoms_in (ahead line r)));
}

pub reading_ends : (g : Ground) (line : List ℕ) (first p : Place) (known : Bool) (s : State) (so : Reading g line first p known s)
    → ahead line p ≡ Some [] → query_behind g (Some []) (in_pieces atoms_in (ahead line first)) ≡ query_for g so.found
reading_ends g line first p known s so none = so.same ∙ (ap (query_behind g so.found) (ap (in_pieces atoms_in) none) ∙ no_more g so.found)

pub lowered_more : (xs : List ℕ) (i d : ℕ) → i < length xs → lowered (take (i + 1) xs) ≡ lowered (take i xs) ++ to_ascii_lowercase (get_or xs i d) ∷ []
lowered_more xs i d within = ap lowered (take_more xs i d within) ∙ map-append to_ascii_lowercase (take i xs) (get_or xs i d ∷ [])
