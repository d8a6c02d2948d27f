-- The rows of two certificates together, with their tables, have the form of a certificate.
use Rattle.std.proofs.Common.{◌≡◌, ◌⊎◌, inl, inr, ℕ, suc, ◌+◌, ◌<◌, ◌≤◌, Bool, true, false, cond, List, [], ◌∷◌, ◌++◌, length, map, get_or, Some, None, refl, sym, ap, subst, ◌∙◌, arith, Ordering}
use Rattle.std.specs.Prelude.{Contains, IsTrue, is_some, nat_eq, nat_le, Option}
use Rattle.std.specs.List.{list_all}
use Rattle.std.specs.BTreeSet.{insert_key}
use Rattle.std.specs.Ordering.{match_ordering}
use Rattle.std.specs.declared.cmp.Ordering.TheVariants.{Less, Equal, Greater}
use Rattle.std.specs.Cmp.Lexicographic.{pointwise, bytes_decides}
use Rattle.std.proofs.lemmas.Bool.{and_parts}
use Rattle.std.proofs.lemmas.List.{get_or_default}
use Rattle.std.proofs.lemmas.List.Concat.{flat_map-cons}
use Rattle.std.proofs.lemmas.List.Quantifiers.{position-Some}
use Rattle.plain_list.specs.Texts.{compare_texts, rises}
use Rattle.plain_list.proofs.Members.{Contains-flat_map, Contains-flat_map_cases, Contains-cons_cases, Contains-nil}
use Rattle.certificate.specs.declared.named.NamedAct.{NamedAct}
use Rattle.certificate.specs.declared.named.NamedAct.TheVariants as named
use Rattle.certificate.specs.declared.named.NamedRow.{NamedRow}
use Rattle.certificate.specs.declared.limits.TheConstants.{MOST_COUNT}
use Rattle.certificate.specs.Content.{Content, content_of, IsCertificate, named_rows}
use Rattle.certificate.specs.Numbering.{Among, filled, act_names, atoms_table, acts_table, numbered_row}
use Rattle.certificate.specs.Reading.{IsNamedRow, IsNamedAct}
use Rattle.certificate.proofs.Sorted.{table_sorted, table_has, table_origin, same_table}
use Rattle.certificate.proofs.Numbered.{atoms_in, acts_in, among_cases, rows_back, have_own_names, numbered_again}
use Rattle.certificate.proofs.NumberedIs.{AreNamed, named_are, numbered_is}
use Rattle.ground_model.specs.Ground.{Ground}
use Rattle.ground_model.proofs.Rising.{texts_differ}
use Rattle.ground_step.specs.Names.{place_of}
use Rattle.cert_merge.specs.Tables.{joined}
use Rattle.cert_merge.specs.Grounded.{known_named}
use Rattle.cert_merge.specs.Pairs.{untold, meet, merged_of}
use Rattle.cert_merge.proofs.Joined.{joined_sorted, joined_rises, joined_first, joined_second}
use Rattle.cert_merge.proofs.Members.{among_member, member_among, different_within}
use Rattle.cert_merge.proofs.MergedRows.{InOrder, in_order, order_rises, all_merged, merged_made, merged_order, first_there, second_there, IsMade}

either : {A : Type 0} (P : A → Type 0) (t : Bool) (a b : A) → P a → P b → P (cond t a b)
either P true a b p q = p
either P false a b p q = q

-- ---- the atoms of a certificate are those of its rows

as_first : (c : Content) → Content
as_first c = content_of 1 c.penalty c.lower c.upper c.atoms c.acts c.rows

module _ (c : Content) (is : IsCertificate c) where
  pub first_is : IsCertificate (content_of 1 c.penalty c.lower c.upper c.atoms c.acts c.rows)
  first_is = record {
    version = inl refl;
    penalty = is.penalty;
    lower = is.lower;
    upper = is.upper;
    count = is.count;
    atoms = is.atoms;
    acts = is.acts;
    atoms_rise = is.atoms_rise;
    acts_rise = is.acts_rise;
    few_atoms = λ e. absurd (omega (arith, e));
    few_acts = λ e. absurd (omega (arith, e));
    atoms_used = is.atoms_used;
    acts_used = is.acts_used;
    rows = is.rows;
    numbers_rise = is.numbers_rise;
    rows_rise = is.rows_rise;
  }

  pub atoms_are : atoms_table (named_rows c) ≡ c.atoms
  atoms_are = ap (λ (x : Content). x.atoms) (numbered_again (content_of 1 c.penalty c.lower c.upper c.atoms c.acts c.rows) refl first_is)

  -- an atom of the table is one of some row, and an atom of a row is one of the table
  pub atom_in_row : (x : List ℕ) → Among c.atoms x → (r : NamedRow) × Contains (named_rows c) r × Contains r.atoms x
  atom_in_row x among =
      Contains-flat_map_cases (λ (r : NamedRow). r.atoms) (named_rows c) x
      (member_among (atoms_in (named_rows c)) x (table_origin (atoms_in (named_rows c)) x (subst (λ (t : List (List ℕ)). Among t x) (sym atoms_are) among)))

  pub row_in_table : (r : NamedRow) (x : List ℕ) → Contains (named_rows c) r → Contains r.atoms x → Among c.atoms x
  row_in_table r x inside there =
      subst (λ (t : List (List ℕ)). Among t x) atoms_are
      (table_has (atoms_in (named_rows c)) x (among_member (atoms_in (named_rows c)) x
      (Contains-flat_map (λ (s : NamedRow). s.atoms) (named_rows c) r x inside there)))

-- ---- how long tables are

longer : (o : Ordering) (k x : List ℕ) (xs rest : List (List ℕ)) → length rest ≤ suc (length xs)
    → length (match_ordering o (k ∷ x ∷ xs) (x ∷ xs) (x ∷ rest)) ≤ suc (suc (length xs))
longer Less k x xs rest few = omega arith
longer Equal k x xs rest few = omega arith
longer Greater k x xs rest few = omega (arith, few)

inserted_few : (table : List (List ℕ)) (k : List ℕ) → length (insert_key compare_texts table k) ≤ suc (length table)
inserted_few [] k = omega arith
inserted_few (x ∷ table) k = longer (compare_texts k x) k x table (insert_key compare_texts table k) (inserted_few table k)

filled_few : (table texts : List (List ℕ)) → length (filled table texts) ≤ length table + length texts
filled_few table [] = omega arith
filled_few table (text ∷ texts) =
    (let a = filled_few (insert_key compare_texts table text) texts in let b = inserted_few table text in omega arith)

names_few : (rows : List NamedRow) → length (acts_in rows) ≤ length rows
names_few [] = omega arith
names_few (r ∷ rows) =
    let a : acts_in (r ∷ rows) ≡ act_names r.act ++ acts_in rows = flat_map-cons (λ (x : NamedRow). act_names x.act) r rows in
    one_more r.act (acts_in rows) (acts_in (r ∷ rows)) (length rows) a (names_few rows)
  where
    one_more : (o : NamedAct) (rest all : List (List ℕ)) (n : ℕ) → all ≡ act_names o ++ rest → length rest ≤ n → length all ≤ suc n
    one_more named.GiveUp rest all n is few = (let a = ap length is in omega arith)
    one_more named.Goal rest all n is few = (let a = ap length is in omega arith)
    one_more (named.Do name) rest all n is few = (let a = ap length is in omega arith)

pub acts_few : (rows : List NamedRow) → length (acts_table rows) ≤ length rows
acts_few rows = (let a = filled_few [] (acts_in rows) in let b = names_few rows in omega arith)

-- ---- the rows of both

module _ (c d : Content) (is : IsCertificate c) (is' : IsCertificate d) where
  abbrev pub rows : List NamedRow
  rows = merged_of c d

  order : InOrder (named_rows c)
  order = in_order (named_rows c) (named_are c is).rows_rise

  order_too : InOrder (named_rows d)
  order_too = in_order (named_rows d) (named_are d is').rows_rise

  made : (z : NamedRow) → Contains rows z → IsMade c.penalty (named_rows c) (named_rows d) z
  made z inside = merged_made c.penalty (named_rows c) (named_rows d) order order_too z inside

  atom_there : (r z : NamedRow) (x : List ℕ) → Contains rows z → z.atoms ≡ r.atoms → Contains r.atoms x → Among (atoms_table rows) x
  atom_there r z x inside same there =
      table_has (atoms_in rows) x (among_member (atoms_in rows) x
      (Contains-flat_map (λ (s : NamedRow). s.atoms) rows z x inside (subst (λ (a : List (List ℕ)). Contains a x) (sym same) there)))

  joined_to : (x : List ℕ) → Among (joined c d) x → Among (atoms_table rows) x
  joined_to x among = by (among_cases c.atoms d.atoms x (table_origin (c.atoms ++ d.atoms) x among))
    where
      by : Among c.atoms x ⊎ Among d.atoms x → Among (atoms_table rows) x
      by (inl here) =
          let r = atom_in_row c is x here in
          let z = first_there c.penalty (named_rows c) (named_rows d) r.0 r.1 in atom_there r.0 z.0 x z.1 z.2 r.2
      by (inr here) =
          let r = atom_in_row d is' x here in
          let z = second_there c.penalty (named_rows c) (named_rows d) r.0 r.1 in atom_there r.0 z.0 x z.1 z.2 r.2

  joined_from : (x : List ℕ) → Among (atoms_table rows) x → Among (joined c d) x
  joined_from x among =
      let z = Contains-flat_map_cases (λ (r : NamedRow). r.atoms) rows x (member_among (atoms_in rows) x (table_origin (atoms_in rows) x among)) in
      by z.0 (made z.0 z.1) z.2
    where
      by : (z : NamedRow) → IsMade c.penalty (named_rows c) (named_rows d) z → Contains z.atoms x → Among (joined c d) x
      by z (inl m) there =
          joined_first c d x (row_in_table c is m.row x m.inside (subst (λ (a : List (List ℕ)). Contains a x) (sym (ap (λ (y : NamedRow). y.atoms) m.is)) there))
      by z (inr (inl m)) there =
          joined_second c d x (row_in_table d is' m.row x m.inside (subst (λ (a : List (List ℕ)). Contains a x) (sym (ap (λ (y : NamedRow). y.atoms) m.is)) there))
      by z (inr (inr m)) there =
          joined_first c d x (row_in_table c is m.row x m.inside (subst (λ (a : List (List ℕ)). Contains a x) (sym (ap (λ (y : NamedRow). y.atoms) m.is)) there))

  -- the table of both has exactly what the rows use
  pub joined_is : joined c d ≡ atoms_table rows
  joined_is = same_table (joined c d) (atoms_table rows) (joined_sorted c d) (table_sorted (atoms_in rows)) joined_to joined_from

  formed_meet : (r s : NamedRow) → IsNamedRow r → IsNamedRow s → IsNamedRow (meet r s)
  formed_meet r s f f' = record {
    lower = (let a = f.lower in let b = f'.lower in omega arith);
    upper = (let a = f.upper in let b = f'.upper in omega arith);
    act = either IsNamedAct (nat_le r.upper s.upper) r.act s.act f.act f'.act;
    atoms = f.atoms;
  }

  formed_untold : (r : NamedRow) → IsNamedRow r → IsNamedRow (untold c.penalty r.atoms)
  formed_untold r f = record { lower = omega arith; upper = is.penalty.1; act = tt; atoms = f.atoms }

  are_named : AreNamed rows
  are_named = record {
    formed = all_merged c.penalty IsNamedRow (λ r f. formed_meet r (untold c.penalty r.atoms) f (formed_untold r f))
        (λ r f. formed_meet (untold c.penalty r.atoms) r (formed_untold r f) f) formed_meet (named_rows c) (named_rows d)
        (named_are c is).formed (named_are d is').formed;
    atoms_rise = all_merged c.penalty (λ r. IsTrue (rises compare_texts r.atoms)) (λ r f. f) (λ r f. f) (λ r s f _. f) (named_rows c) (named_rows d)
        (named_are c is).atoms_rise (named_are d is').atoms_rise;
    rows_rise = order_rises rows (merged_order c.penalty (named_rows c) (named_rows d) order order_too);
  }

  abbrev pub whole : ℕ → ℕ → Content
  whole lower upper = content_of 2 c.penalty lower upper (joined c d) (acts_table rows) (map (numbered_row (joined c d) (acts_table rows)) rows)

  by_table : List (List ℕ) → Content
  by_table t = content_of 2 c.penalty 0 0 t (acts_table rows) (map (numbered_row t (acts_table rows)) rows)

  pub has_form : length rows ≤ MOST_COUNT → length (joined c d) ≤ MOST_COUNT → IsCertificate (whole 0 0)
  has_form count few =
      let one = numbered_is c.penalty 0 0 rows is.penalty (omega arith) (omega arith) count are_named in
      subst (λ (t : List (List ℕ)). IsCertificate (content_of 2 c.penalty 0 0 t (acts_table rows) (map (numbered_row t (acts_table rows)) rows)))
      (sym joined_is)
      (record {
        version = inr refl;
        penalty = one.penalty;
        lower = one.lower;
        upper = one.upper;
        count = one.count;
        atoms = one.atoms;
        acts = one.acts;
        atoms_rise = one.atoms_rise;
        acts_rise = one.acts_rise;
        few_atoms = λ e. subst (λ (t : List (List ℕ)). length t ≤ MOST_COUNT) joined_is few;
        few_acts = λ e. (let a = acts_few rows in omega arith);
        atoms_used = one.atoms_used;
        acts_used = one.acts_used;
        rows = one.rows;
        numbers_rise = one.numbers_rise;
        rows_rise = one.rows_rise;
      })

  pub has_rows : named_rows (whole 0 0) ≡ rows
  has_rows =
      subst (λ (t : List (List ℕ)). named_rows (content_of 2 c.penalty 0 0 t (acts_table rows) (map (numbered_row t (acts_table rows)) rows)) ≡ rows)
      (sym joined_is)
      (rows_back (atoms_table rows) (acts_table rows) rows (have_own_names rows))

  -- the problem has the atoms of the table
  module _ (g : Ground) (known : (r : NamedRow) → Contains (named_rows c) r → known_named g r ≡ true)
      (known_too : (r : NamedRow) → Contains (named_rows d) r → known_named g r ≡ true) where
    known_atom : (atoms : List (List ℕ)) → list_all (λ name. is_some (place_of g.atoms name)) atoms ≡ true → (x : List ℕ) → Contains atoms x
        → is_some (place_of g.atoms x) ≡ true
    known_atom [] all x inside = absurd (Contains-nil x inside)
    known_atom (y ∷ atoms) all x inside =
        let parts = and_parts (is_some (place_of g.atoms y)) (list_all (λ name. is_some (place_of g.atoms name)) atoms) all in
        elim (Contains-cons_cases y atoms x inside) [
          | inl here ↦ subst (λ name. is_some (place_of g.atoms name) ≡ true) here parts.0
          | inr later ↦ known_atom atoms parts.1 x later
        ]

    placed : (o : Option ℕ) → is_some o ≡ true → (q : ℕ) × (o ≡ Some q)
    placed None on = absurd cc
    placed (Some q) on = (q, refl)

    in_problem : (x : List ℕ) → is_some (place_of g.atoms x) ≡ true → Contains g.atoms x
    in_problem x on =
        let at = placed (place_of g.atoms x) on in
        let found = position-Some (pointwise nat_eq x) g.atoms at.0 [] at.1 in
        (at.0, found.0, read at.0 found.0 (sym ((bytes_decides x (get_or g.atoms at.0 [])).0 found.1)))
      where
        read : (q : ℕ) → q < length g.atoms → get_or g.atoms q [] ≡ x → get_or g.atoms q x ≡ x
        read q within same = get_or_default g.atoms q x [] within ∙ same

    table_in_problem : (x : List ℕ) → Contains (joined c d) x → Contains g.atoms x
    table_in_problem x inside = in_problem x (by (among_cases c.atoms d.atoms x (table_origin (c.atoms ++ d.atoms) x (among_member (joined c d) x inside))))
      where
        by : Among c.atoms x ⊎ Among d.atoms x → is_some (place_of g.atoms x) ≡ true
        by (inl here) = let r = atom_in_row c is x here in known_atom r.0.atoms (known r.0 r.1) x r.2
        by (inr here) = let r = atom_in_row d is' x here in known_atom r.0.atoms (known_too r.0 r.1) x r.2

    pub table_few : length (joined c d) ≤ length g.atoms
    table_few = different_within (joined c d) g.atoms (texts_differ (joined c d) (joined_rises c d)) table_in_problem
