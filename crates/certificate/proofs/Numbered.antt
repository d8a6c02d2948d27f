-- Certificates of version 1 and their rows of names: one from the other, both ways.
use Rattle.std.proofs.Common.{◌≡◌, ◌⊎◌, inl, inr, ℕ, ◌<◌, Bool, true, false, ◌||◌, eqb, List, [], ◌∷◌, ◌++◌, length, map, refl, ap, sym, subst, ◌∙◌}
use Rattle.std.specs.List.{flat_map, list_any, AllByRecursion}
use Rattle.std.proofs.lemmas.Bool.{eqb-true}
use Rattle.certificate.specs.declared.act.Act.{Act}
use Rattle.certificate.specs.declared.act.Act.TheVariants.{GiveUp, Goal, Do}
use Rattle.certificate.specs.declared.named.NamedAct.{NamedAct}
use Rattle.certificate.specs.declared.named.NamedAct.TheVariants as named
use Rattle.certificate.specs.declared.named.NamedRow.{NamedRow}
use Rattle.certificate.specs.Rows.{Row}
use Rattle.certificate.specs.Content.{Content, IsAct, IsRow, does, uses_atom, uses_act, IsCertificate, name_at, named_act, named_row, named_rows}
use Rattle.certificate.specs.Numbering.{Among, place_of, act_names, atoms_table, acts_table, numbered_act, numbered_row, numbered}
use Rattle.certificate.proofs.Sorted.{Sorted, sorted_is, same_table, table_sorted, table_has, table_origin, place_found, name_among, place_is_own}

-- ---- texts of rows

among_front : (xs ys : List (List ℕ)) (text : List ℕ) → Among xs text → Among (xs ++ ys) text
among_front [] ys text among = absurd among
among_front (x ∷ xs) ys text (inl is) = inl is
among_front (x ∷ xs) ys text (inr among) = inr (among_front xs ys text among)

among_rest : (xs ys : List (List ℕ)) (text : List ℕ) → Among ys text → Among (xs ++ ys) text
among_rest [] ys text among = among
among_rest (x ∷ xs) ys text among = inr (among_rest xs ys text among)

pub among_cases : (xs ys : List (List ℕ)) (text : List ℕ) → Among (xs ++ ys) text → Among xs text ⊎ Among ys text
among_cases [] ys text among = inr among
among_cases (x ∷ xs) ys text (inl is) = inl (inl is)
among_cases (x ∷ xs) ys text (inr among) = by (among_cases xs ys text among)
  where
    by : Among xs text ⊎ Among ys text → Among (x ∷ xs) text ⊎ Among ys text
    by (inl among) = inl (inr among)
    by (inr among) = inr among

pub all_append : (P : List ℕ → Type 0) (xs ys : List (List ℕ)) → AllByRecursion P xs → AllByRecursion P ys → AllByRecursion P (xs ++ ys)
all_append P [] ys p q = q
all_append P (x ∷ xs) ys p q = (p.0, all_append P xs ys p.1 q)

abbrev pub atoms_in : List NamedRow → List (List ℕ)
atoms_in rows = flat_map (λ (r : NamedRow). r.atoms) rows

abbrev pub acts_in : List NamedRow → List (List ℕ)
acts_in rows = flat_map (λ (r : NamedRow). act_names r.act) rows

-- each row has its names in these tables
abbrev pub HasNames : List (List ℕ) → List (List ℕ) → NamedRow → Type 0
HasNames atoms acts r = ((x : List ℕ) → Among r.atoms x → Among atoms x) × ((x : List ℕ) → Among (act_names r.act) x → Among acts x)

have_names : (atoms acts : List (List ℕ)) (rows : List NamedRow) → ((x : List ℕ) → Among (atoms_in rows) x → Among atoms x) → ((x : List ℕ) → Among (acts_in rows) x → Among acts x) → AllByRecursion (HasNames atoms acts) rows
have_names atoms acts [] p q = tt
have_names atoms acts (r ∷ rows) p q = (
  (λ x among. p x (among_front r.atoms (atoms_in rows) x among), λ x among. q x (among_front (act_names r.act) (acts_in rows) x among)),
  have_names atoms acts rows (λ x among. p x (among_rest r.atoms (atoms_in rows) x among)) (λ x among. q x (among_rest (act_names r.act) (acts_in rows) x among)),
)

pub have_own_names : (rows : List NamedRow) → AllByRecursion (HasNames (atoms_table rows) (acts_table rows)) rows
have_own_names rows = have_names (atoms_table rows) (acts_table rows) rows (table_has (atoms_in rows)) (table_has (acts_in rows))

-- ---- names to numbers and back

pub names_back : (table texts : List (List ℕ)) → ((x : List ℕ) → Among texts x → Among table x) → map (name_at table) (map (place_of table) texts) ≡ texts
names_back table [] has = refl
names_back table (text ∷ texts) has =
    ap (λ (x : List ℕ). x ∷ map (name_at table) (map (place_of table) texts)) (place_found table text (has text (inl refl))).1
    ∙ ap (λ (xs : List (List ℕ)). text ∷ xs) (names_back table texts (λ x among. has x (inr among)))

act_back : (acts : List (List ℕ)) (act : NamedAct) → ((x : List ℕ) → Among (act_names act) x → Among acts x) → named_act acts (numbered_act acts act) ≡ act
act_back acts named.GiveUp has = refl
act_back acts named.Goal has = refl
act_back acts (named.Do name) has = ap (λ (x : List ℕ). named.Do x) (place_found acts name (has name (inl refl))).1

row_back : (atoms acts : List (List ℕ)) (r : NamedRow) → HasNames atoms acts r → named_row atoms acts (numbered_row atoms acts r) ≡ r
row_back atoms acts r has =
    ap (λ (a : NamedAct). record { lower = r.lower; upper = r.upper; act = a; atoms = map (name_at atoms) (map (place_of atoms) r.atoms) }) (act_back acts r.act has.1)
    ∙ ap (λ (texts : List (List ℕ)). record { lower = r.lower; upper = r.upper; act = r.act; atoms = texts }) (names_back atoms r.atoms has.0)

pub rows_back : (atoms acts : List (List ℕ)) (rows : List NamedRow) → AllByRecursion (HasNames atoms acts) rows → map (named_row atoms acts) (map (numbered_row atoms acts) rows) ≡ rows
rows_back atoms acts [] has = refl
rows_back atoms acts (r ∷ rows) has =
    ap (λ (s : NamedRow). s ∷ map (named_row atoms acts) (map (numbered_row atoms acts) rows)) (row_back atoms acts r has.0)
    ∙ ap (λ (rest : List NamedRow). r ∷ rest) (rows_back atoms acts rows has.1)

pub named_again : (penalty lower upper : ℕ) (rows : List NamedRow) → named_rows (numbered penalty lower upper rows) ≡ rows
named_again penalty lower upper rows = rows_back (atoms_table rows) (acts_table rows) rows (have_own_names rows)

-- ---- numbers to names and back

abbrev InRange : List (List ℕ) → List ℕ → Type 0
InRange table numbers = AllByRecursion (λ n. n < length table) numbers

numbers_back : (table : List (List ℕ)) (numbers : List ℕ) → Sorted table → InRange table numbers → map (place_of table) (map (name_at table) numbers) ≡ numbers
numbers_back table [] sorted are = refl
numbers_back table (n ∷ numbers) sorted are =
    ap (λ (m : ℕ). m ∷ map (place_of table) (map (name_at table) numbers)) (place_is_own table n (name_at table n) sorted are.0 refl)
    ∙ ap (λ (rest : List ℕ). n ∷ rest) (numbers_back table numbers sorted are.1)

number_back : (acts : List (List ℕ)) (act : Act) → Sorted acts → IsAct (length acts) act → numbered_act acts (named_act acts act) ≡ act
number_back acts GiveUp sorted is = refl
number_back acts Goal sorted is = refl
number_back acts (Do n) sorted is = ap (λ (m : ℕ). Do m) (place_is_own acts n (name_at acts n) sorted is refl)

numbered_back : (atoms acts : List (List ℕ)) (rows : List Row) → Sorted atoms → Sorted acts → AllByRecursion (IsRow (length atoms) (length acts)) rows → map (numbered_row atoms acts) (map (named_row atoms acts) rows) ≡ rows
numbered_back atoms acts [] sa sj are = refl
numbered_back atoms acts (r ∷ rows) sa sj are =
    let first : numbered_row atoms acts (named_row atoms acts r) ≡ r =
    ap (λ (a : Act). record { lower = r.lower; upper = r.upper; act = a; atoms = map (place_of atoms) (map (name_at atoms) r.atoms) }) (number_back acts r.act sj are.0.act)
    ∙ ap (λ (numbers : List ℕ). record { lower = r.lower; upper = r.upper; act = r.act; atoms = numbers }) (numbers_back atoms r.atoms sa are.0.atoms) in
    ap (λ (s : Row). s ∷ map (numbered_row atoms acts) (map (named_row atoms acts) rows)) first
    ∙ ap (λ (rest : List Row). r ∷ rest) (numbered_back atoms acts rows sa sj are.1)

-- ---- what rows use, and their names

names_among : (table : List (List ℕ)) (numbers : List ℕ) (x : List ℕ) → InRange table numbers → Among (map (name_at table) numbers) x → Among table x
names_among table [] x are among = absurd among
names_among table (n ∷ numbers) x are (inl is) = subst (Among table) is (name_among table n are.0)
names_among table (n ∷ numbers) x are (inr among) = names_among table numbers x are.1 among

act_among : (acts : List (List ℕ)) (act : Act) (x : List ℕ) → IsAct (length acts) act → Among (act_names (named_act acts act)) x → Among acts x
act_among acts GiveUp x is among = absurd among
act_among acts Goal x is among = absurd among
act_among acts (Do n) x is (inl same) = subst (Among acts) same (name_among acts n is)
act_among acts (Do n) x is (inr none) = absurd none

module _ (atoms acts : List (List ℕ)) where
  atoms_in_table : (rows : List Row) (x : List ℕ) → AllByRecursion (IsRow (length atoms) (length acts)) rows → Among (atoms_in (map (named_row atoms acts) rows)) x → Among atoms x
  atoms_in_table [] x are among = absurd among
  atoms_in_table (r ∷ rows) x are among = by (among_cases (map (name_at atoms) r.atoms) (atoms_in (map (named_row atoms acts) rows)) x among) (atoms_in_table rows x are.1)
    where
      by : Among (map (name_at atoms) r.atoms) x ⊎ Among (atoms_in (map (named_row atoms acts) rows)) x → (Among (atoms_in (map (named_row atoms acts) rows)) x → Among atoms x) → Among atoms x
      by (inl here) later = names_among atoms r.atoms x are.0.atoms here
      by (inr there) later = later there

  acts_in_table : (rows : List Row) (x : List ℕ) → AllByRecursion (IsRow (length atoms) (length acts)) rows → Among (acts_in (map (named_row atoms acts) rows)) x → Among acts x
  acts_in_table [] x are among = absurd among
  acts_in_table (r ∷ rows) x are among = by (among_cases (act_names (named_act acts r.act)) (acts_in (map (named_row atoms acts) rows)) x among) (acts_in_table rows x are.1)
    where
      by : Among (act_names (named_act acts r.act)) x ⊎ Among (acts_in (map (named_row atoms acts) rows)) x → (Among (acts_in (map (named_row atoms acts) rows)) x → Among acts x) → Among acts x
      by (inl here) later = act_among acts r.act x are.0.act here
      by (inr there) later = later there

  or_cases : (a b : Bool) → (a || b) ≡ true → (a ≡ true) ⊎ (b ≡ true)
  or_cases true b e = inl refl
  or_cases false b e = inr e

  name_used : (numbers : List ℕ) (i : ℕ) → list_any (λ n. eqb n i) numbers ≡ true → Among (map (name_at atoms) numbers) (name_at atoms i)
  name_used [] i e = absurd cc
  name_used (n ∷ numbers) i e = by (or_cases (eqb n i) (list_any (λ m. eqb m i) numbers) e) (name_used numbers i)
    where
      by : (eqb n i ≡ true) ⊎ (list_any (λ m. eqb m i) numbers ≡ true) → (list_any (λ m. eqb m i) numbers ≡ true → Among (map (name_at atoms) numbers) (name_at atoms i)) → Among (map (name_at atoms) (n ∷ numbers)) (name_at atoms i)
      by (inl here) later = inl (ap (name_at atoms) (eqb-true n i here))
      by (inr there) later = inr (later there)

  atom_used : (rows : List Row) (i : ℕ) → uses_atom rows i ≡ true → Among (atoms_in (map (named_row atoms acts) rows)) (name_at atoms i)
  atom_used [] i e = absurd cc
  atom_used (r ∷ rows) i e = by (or_cases (list_any (λ n. eqb n i) r.atoms) (uses_atom rows i) e) (atom_used rows i)
    where
      by : (list_any (λ n. eqb n i) r.atoms ≡ true) ⊎ (uses_atom rows i ≡ true) → (uses_atom rows i ≡ true → Among (atoms_in (map (named_row atoms acts) rows)) (name_at atoms i)) → Among (atoms_in (map (named_row atoms acts) (r ∷ rows))) (name_at atoms i)
      by (inl here) later = among_front (map (name_at atoms) r.atoms) (atoms_in (map (named_row atoms acts) rows)) (name_at atoms i) (name_used r.atoms i here)
      by (inr there) later = among_rest (map (name_at atoms) r.atoms) (atoms_in (map (named_row atoms acts) rows)) (name_at atoms i) (later there)

  act_does : (act : Act) (i : ℕ) → does i act ≡ true → Among (act_names (named_act acts act)) (name_at acts i)
  act_does GiveUp i e = absurd cc
  act_does Goal i e = absurd cc
  act_does (Do n) i e = inl (ap (name_at acts) (eqb-true n i e))

  act_used : (rows : List Row) (i : ℕ) → uses_act rows i ≡ true → Among (acts_in (map (named_row atoms acts) rows)) (name_at acts i)
  act_used [] i e = absurd cc
  act_used (r ∷ rows) i e = by (or_cases (does i r.act) (uses_act rows i) e) (act_used rows i)
    where
      by : (does i r.act ≡ true) ⊎ (uses_act rows i ≡ true) → (uses_act rows i ≡ true → Among (acts_in (map (named_row atoms acts) rows)) (name_at acts i)) → Among (acts_in (map (named_row atoms acts) (r ∷ rows))) (name_at acts i)
      by (inl here) later = among_front (act_names (named_act acts r.act)) (acts_in (map (named_row atoms acts) rows)) (name_at acts i) (act_does r.act i here)
      by (inr there) later = among_rest (act_names (named_act acts r.act)) (acts_in (map (named_row atoms acts) rows)) (name_at acts i) (later there)

-- an entry of a table, by its place
among_place : (table : List (List ℕ)) (x : List ℕ) (P : List ℕ → Type 0) → ((i : ℕ) → i < length table → P (name_at table i)) → Among table x → P x
among_place table x P at among = let found = place_found table x among in subst P found.1 (at (place_of table x) found.0)

pub numbered_again : (c : Content) → c.version ≡ 1 → IsCertificate c → numbered c.penalty c.lower c.upper (named_rows c) ≡ c
numbered_again c version is =
    let rows : List NamedRow = named_rows c in
    let sa = sorted_is c.atoms is.atoms_rise in
    let sj = sorted_is c.acts is.acts_rise in
    let atoms : atoms_table rows ≡ c.atoms =
    same_table (atoms_table rows) c.atoms (table_sorted (atoms_in rows)) sa
    (λ x among. atoms_in_table c.atoms c.acts c.rows x is.rows (table_origin (atoms_in rows) x among))
    (λ x among. table_has (atoms_in rows) x (among_place c.atoms x (Among (atoms_in rows)) (λ i lt. atom_used c.atoms c.acts c.rows i (is.atoms_used i lt)) among)) in
    let acts : acts_table rows ≡ c.acts =
    same_table (acts_table rows) c.acts (table_sorted (acts_in rows)) sj
    (λ x among. acts_in_table c.atoms c.acts c.rows x is.rows (table_origin (acts_in rows) x among))
    (λ x among. table_has (acts_in rows) x (among_place c.acts x (Among (acts_in rows)) (λ i lt. act_used c.atoms c.acts c.rows i (is.acts_used i lt)) among)) in
    let back : map (numbered_row c.atoms c.acts) rows ≡ c.rows = numbered_back c.atoms c.acts c.rows sa sj is.rows in
    ap (λ (table : List (List ℕ)). record { version = 1; penalty = c.penalty; lower = c.lower; upper = c.upper; atoms = table; acts = acts_table rows; rows = map (numbered_row table (acts_table rows)) rows }) atoms
    ∙ ap (λ (table : List (List ℕ)). record { version = 1; penalty = c.penalty; lower = c.lower; upper = c.upper; atoms = c.atoms; acts = table; rows = map (numbered_row c.atoms table) rows }) acts
    ∙ ap (λ (r : List Row). record { version = 1; penalty = c.penalty; lower = c.lower; upper = c.upper; atoms = c.atoms; acts = c.acts; rows = r }) back
    ∙ ap (λ (v : ℕ). record { version = v; penalty = c.penalty; lower = c.lower; upper = c.upper; atoms = c.atoms; acts = c.acts; rows = c.rows }) (sym version)
