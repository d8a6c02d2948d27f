-- Rows tell ground atoms apart.
use Rattle.std.proofs.Common.{◌≡◌, ℕ, ◌<◌, Bool, true, false, ◌||◌, List, [], ◌∷◌, map, length, Some, None, refl, sym, ap, subst, ◌∙◌, true≢false}
use Rattle.std.specs.Prelude.{Option, All}
use Rattle.std.specs.List.{list_any, IsDistinct}
use Rattle.std.proofs.lemmas.List.Elements.{All-head, All-tail}
use Rattle.std.proofs.lemmas.List.Folds.{list_any-append}
use Rattle.ppddl_model.specs.declared.tree.ObjectDecl.{ObjectDecl}
use Rattle.ppddl_model.specs.State.{Name, same_name, GroundAtom, same_atom}
use Rattle.ppddl_model.specs.Objects.{World}
use Rattle.ppddl_model.proofs.States.{same_name-Decides, same_atom-Decides}
use Rattle.type_table.specs.Numbered.{number_of, name_at}
use Rattle.type_table.specs.Types.{object_names, object_at}
use Rattle.type_table.proofs.Bridge.{own_number}
use Rattle.type_table.proofs.Lists.{by_test, map_length}
use Rattle.type_table.proofs.Numbered.{number_is}
use Rattle.task_instances.specs.fact_rows.Adding.{with_names}
use Rattle.task_instances.specs.fact_rows.Rows.{NumberedAtoms, none_of, atom_at, IsAtomRow, put_first, numbers_of, row_of, rows_in, rows_of, with_atom, with_atoms}
use Rattle.task_instances.proofs.lemmas.fact_rows.Adding.{names-append, any-with_names}

or-false : (a : Bool) → (a || false) ≡ a
or-false true = refl
or-false false = refl

-- ---- names and their numbers

numbers_again : (names : List Name) → IsDistinct same_name names → (row : List ℕ) → All (λ k. k < length names) row
    → numbers_of names (map (name_at names) row) ≡ Some row
numbers_again names distinct [] within = refl
numbers_again names distinct (k ∷ row) within =
    ap (λ n. put_first n (numbers_of names (map (name_at names) row))) (own_number names distinct k (All-head (λ x. x < length names) k row within))
    ∙ ap (put_first (Some k)) (numbers_again names distinct row (All-tail (λ x. x < length names) k row within))

put_first_parts : (k : Option ℕ) (rest : Option (List ℕ)) (row : List ℕ) → put_first k rest ≡ Some row
    → (n : ℕ) × (more : List ℕ) × (k ≡ Some n) × (rest ≡ Some more) × (row ≡ n ∷ more)
put_first_parts (Some n) (Some more) row is = (n, more, refl, refl, cc)
put_first_parts (Some n) None row is = absurd cc
put_first_parts None rest row is = absurd cc

names_again : (names more : List Name) (row : List ℕ) → numbers_of names more ≡ Some row → map (name_at names) row ≡ more
names_again names [] row is = let none : row ≡ [] = cc in ap (map (name_at names)) none
names_again names (n ∷ more) row is =
    let parts = put_first_parts (number_of names n) (numbers_of names more) row is in
    ap (map (name_at names)) parts.4
    ∙ ap (λ x. x ∷ map (name_at names) parts.1) (number_is names n parts.0 parts.2).named
    ∙ ap (λ l. n ∷ l) (names_again names more parts.1 parts.3)

-- ---- ground atoms and their rows

pub names_stay : (w : World) (a : NumberedAtoms) (atoms : List GroundAtom) → (with_atoms w a atoms).names ≡ a.names
names_stay w a [] = refl
names_stay w a (q ∷ atoms) = names_stay w (with_atom w a q) atoms

rows-with_atoms : (w : World) (a : NumberedAtoms) (atoms : List GroundAtom) → (with_atoms w a atoms).rows ≡ with_names a.rows (rows_of a.names w atoms)
rows-with_atoms w a [] = refl
rows-with_atoms w a (q ∷ atoms) =
    rows-with_atoms w (with_atom w a q) atoms ∙ sym (names-append a.rows (rows_in (row_of a.names w q)) (rows_of a.names w atoms))

module _ (names : List Name) (w : World) where
  pub row_again : IsDistinct same_name names → IsDistinct same_name (object_names w) → (row : List ℕ) → IsAtomRow names w row
      → row_of names w (atom_at names w row) ≡ Some row
  row_again distinct apart [] is = absurd is
  row_again distinct apart (p ∷ row) is =
      ap (λ n. put_first n (numbers_of (object_names w) (map (object_at w) row))) (own_number names distinct p is.0)
      ∙ ap (put_first (Some p)) (numbers_again (object_names w) apart row within)
    where
      within : All (λ o. o < length (object_names w)) row
      within = subst (λ n. All (λ o. o < n) row) (map_length (λ (o : ObjectDecl). o.name) w.objects) is.1

  pub atom_again : (q : GroundAtom) (row : List ℕ) → row_of names w q ≡ Some row → atom_at names w row ≡ q
  atom_again [] row is = absurd cc
  atom_again (p ∷ objects) row is =
      let parts = put_first_parts (number_of names p) (numbers_of (object_names w) objects) row is in
      ap (atom_at names w) parts.4
      ∙ ap (λ x. x ∷ map (object_at w) parts.1) (number_is names p parts.0 parts.2).named
      ∙ ap (λ l. p ∷ l) (names_again (object_names w) objects parts.1 parts.3)

  module _ (distinct : IsDistinct same_name names) (apart : IsDistinct same_name (object_names w)) (row : List ℕ) (is : IsAtomRow names w row) where
    row_is : (q : GroundAtom) → same_atom (atom_at names w row) q ≡ true → row_of names w q ≡ Some row
    row_is q t = ap (row_of names w) (sym ((same_atom-Decides (atom_at names w row) q).0 t)) ∙ row_again distinct apart row is

    is_row : (q : GroundAtom) (other : List ℕ) → row_of names w q ≡ Some other → same_atom (atom_at names w row) q ≡ true → row ≡ other
    is_row q other of t = let both : Some row ≡ Some other = sym (row_is q t) ∙ of in cc

    has_row : (q : GroundAtom) → row_of names w q ≡ None → same_atom (atom_at names w row) q ≡ true → ⊥
    has_row q none t = let both : Some row ≡ None = sym (row_is q t) ∙ none in absurd cc

    one_tells : (q : GroundAtom) (of : Option (List ℕ)) → row_of names w q ≡ of
        → list_any (same_name row) (rows_in of) ≡ same_atom (atom_at names w row) q
    one_tells q (Some other) of = or-false (same_name row other) ∙ by_test (same_name row other)
        (λ e. e ∙ sym ((same_atom-Decides (atom_at names w row) q).1
        (ap (atom_at names w) ((same_name-Decides row other).0 e) ∙ atom_again q other of)))
        (λ e. by_test (same_atom (atom_at names w row) q)
        (λ t. absurd (true≢false (sym ((same_name-Decides row other).1 (is_row q other of t)) ∙ e)))
        (λ f. e ∙ sym f))
    one_tells q None of = by_test (same_atom (atom_at names w row) q)
        (λ t. absurd (has_row q of t))
        (λ f. sym f)

    all_tell : (atoms : List GroundAtom) → list_any (same_name row) (rows_of names w atoms) ≡ list_any (same_atom (atom_at names w row)) atoms
    all_tell [] = refl
    all_tell (q ∷ atoms) =
        list_any-append (same_name row) (rows_in (row_of names w q)) (rows_of names w atoms)
        ∙ ap (λ b. b || list_any (same_name row) (rows_of names w atoms)) (one_tells q (row_of names w q) refl)
        ∙ ap (λ b. same_atom (atom_at names w row) q || b) (all_tell atoms)

    rows_tell_of : (atoms : List GroundAtom) → list_any (same_name row) (with_names [] (rows_of names w atoms)) ≡ list_any (same_atom (atom_at names w row)) atoms
    rows_tell_of atoms = any-with_names [] (rows_of names w atoms) row ∙ all_tell atoms

    pub rows_tell : (atoms : List GroundAtom)
        → list_any (same_name row) (with_atoms w (none_of names) atoms).rows ≡ list_any (same_atom (atom_at names w row)) atoms
    rows_tell atoms = ap (list_any (same_name row)) (rows-with_atoms w (none_of names) atoms) ∙ rows_tell_of atoms
