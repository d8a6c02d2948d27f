-- Rows of names that rise, with their tables, are a certificate; and the rows of names of a certificate rise.
use Rattle.std.proofs.Common.{◌≡◌, ◌⊎◌, inl, inr, ℕ, ◌<◌, ◌≤◌, Bool, true, false, ◌||◌, eqb, List, [], ◌∷◌, length, map, refl, ap, sym, subst, ◌∙◌, arith}
use Rattle.std.specs.Prelude.{IsTrue}
use Rattle.std.specs.List.{list_any, AllByRecursion}
use Rattle.std.specs.Ordering.{nat_cmp}
use Rattle.std.proofs.lemmas.Bool.{eq-eqb}
use Rattle.std.proofs.lemmas.List.{length-map}
use Rattle.plain_list.specs.Texts.{compare_texts, rises, rises_behind}
use Rattle.certificate.specs.declared.limits.TheConstants.{MOST_UNITS, MOST_COUNT}
use Rattle.certificate.specs.declared.act.Act.{Act}
use Rattle.certificate.specs.declared.act.Act.TheVariants.{GiveUp, Goal, Do}
use Rattle.certificate.specs.declared.named.NamedAct.{NamedAct}
use Rattle.certificate.specs.declared.named.NamedAct.TheVariants as named
use Rattle.certificate.specs.declared.named.NamedRow.{NamedRow}
use Rattle.certificate.specs.Names.{IsNameList}
use Rattle.certificate.specs.Rows.{Row}
use Rattle.certificate.specs.Content.{Content, compare_rows, IsAct, IsRow, does, uses_atom, uses_act, IsCertificate, name_at, named_act, named_row, named_rows}
use Rattle.certificate.specs.Numbering.{Among, place_of, act_names, atoms_table, acts_table, numbered_act, numbered_row, numbered}
use Rattle.certificate.specs.Reading.{IsNamedAct, IsNamedRow, compare_named_rows}
use Rattle.certificate.proofs.Sorted.{Sorted, sorted_is, sorted_rises, table_sorted, table_origin, table_all, place_found, name_among, place_is_own}
use Rattle.certificate.proofs.Numbering.{names_rise, names_compare}
use Rattle.certificate.proofs.Numbered.{atoms_in, acts_in, HasNames, have_own_names, names_back, rows_back, among_cases, all_append}

abbrev InRange : List (List ℕ) → List ℕ → Type 0
InRange table numbers = AllByRecursion (λ n. n < length table) numbers

abbrev AreRows : List (List ℕ) → List (List ℕ) → List Row → Type 0
AreRows atoms acts rows = AllByRecursion (IsRow (length atoms) (length acts)) rows

-- ---- the order of rows, by names and by numbers

module _ (atoms acts : List (List ℕ)) (sorted : Sorted atoms) where
  same_behind : (r : Row) (rows : List Row) → IsRow (length atoms) (length acts) r → AreRows atoms acts rows → rises_behind compare_named_rows (named_row atoms acts r) (map (named_row atoms acts) rows) ≡ rises_behind compare_rows r rows
  same_behind r [] is are = refl
  same_behind r (s ∷ rows) is are = rw (names_compare atoms sorted r.atoms s.atoms is.atoms are.0.atoms, same_behind s rows are.0 are.1) refl

  pub rows_rise_alike : (rows : List Row) → AreRows atoms acts rows → rises compare_named_rows (map (named_row atoms acts) rows) ≡ rises compare_rows rows
  rows_rise_alike [] are = refl
  rows_rise_alike (r ∷ rows) are = same_behind r rows are.0 are.1

  pub names_rise_alike : (rows : List Row) → AreRows atoms acts rows → AllByRecursion (λ r. IsTrue (rises nat_cmp r.atoms)) rows → AllByRecursion (λ r. IsTrue (rises compare_texts r.atoms)) (map (named_row atoms acts) rows)
  names_rise_alike [] are rise = tt
  names_rise_alike (r ∷ rows) are rise = (names_rise atoms sorted r.atoms are.0.atoms ∙ rise.0, names_rise_alike rows are.1 rise.1)

-- ---- the rows of names of a certificate are in form

at_place : (P : List ℕ → Type 0) (table : List (List ℕ)) (n : ℕ) → AllByRecursion P table → n < length table → P (name_at table n)
at_place P table n all lt = all_among table (name_at table n) all (name_among table n lt)
  where
    all_among : (table : List (List ℕ)) (text : List ℕ) → AllByRecursion P table → Among table text → P text
    all_among [] text all among = absurd among
    all_among (x ∷ table) text all (inl is) = subst P is all.0
    all_among (x ∷ table) text all (inr among) = all_among table text all.1 among

named_formed : (atoms acts : List (List ℕ)) → AllByRecursion IsNameList atoms → AllByRecursion IsNameList acts → (rows : List Row) → AreRows atoms acts rows → AllByRecursion IsNamedRow (map (named_row atoms acts) rows)
named_formed atoms acts names_a names_j [] are = tt
named_formed atoms acts names_a names_j (r ∷ rows) are = (
  record { lower = are.0.lower; upper = are.0.upper; act = act_formed r.act are.0.act; atoms = atoms_formed r.atoms are.0.atoms },
  named_formed atoms acts names_a names_j rows are.1,
)
  where
    act_formed : (act : Act) → IsAct (length acts) act → IsNamedAct (named_act acts act)
    act_formed GiveUp is = tt
    act_formed Goal is = tt
    act_formed (Do n) is = at_place IsNameList acts n names_j is

    atoms_formed : (numbers : List ℕ) → InRange atoms numbers → AllByRecursion IsNameList (map (name_at atoms) numbers)
    atoms_formed [] are = tt
    atoms_formed (n ∷ numbers) are = (at_place IsNameList atoms n names_a are.0, atoms_formed numbers are.1)

-- rows of names in form and in order
pub record AreNamed (rows : List NamedRow) : Type 0 where
  pub formed : AllByRecursion IsNamedRow rows
  pub atoms_rise : AllByRecursion (λ r. IsTrue (rises compare_texts r.atoms)) rows
  pub rows_rise : rises compare_named_rows rows ≡ true

pub named_are : (c : Content) → IsCertificate c → AreNamed (named_rows c)
named_are c is =
    let sorted = sorted_is c.atoms is.atoms_rise in record {
      formed = named_formed c.atoms c.acts is.atoms is.acts c.rows is.rows;
      atoms_rise = names_rise_alike c.atoms c.acts sorted c.rows is.rows is.numbers_rise;
      rows_rise = rows_rise_alike c.atoms c.acts sorted c.rows is.rows ∙ is.rows_rise;
    }

-- ---- the numbers of rows of names

places_in_range : (table texts : List (List ℕ)) → ((x : List ℕ) → Among texts x → Among table x) → InRange table (map (place_of table) texts)
places_in_range table [] has = tt
places_in_range table (text ∷ texts) has = ((place_found table text (has text (inl refl))).0, places_in_range table texts (λ x among. has x (inr among)))

numbered_rows_are : (atoms acts : List (List ℕ)) (rows : List NamedRow) → AllByRecursion IsNamedRow rows → AllByRecursion (HasNames atoms acts) rows → AreRows atoms acts (map (numbered_row atoms acts) rows)
numbered_rows_are atoms acts [] formed has = tt
numbered_rows_are atoms acts (r ∷ rows) formed has = (
  record { lower = formed.0.lower; upper = formed.0.upper; act = act_in_range r.act has.0.1; atoms = places_in_range atoms r.atoms has.0.0 },
  numbered_rows_are atoms acts rows formed.1 has.1,
)
  where
    act_in_range : (act : NamedAct) → ((x : List ℕ) → Among (act_names act) x → Among acts x) → IsAct (length acts) (numbered_act acts act)
    act_in_range named.GiveUp has = tt
    act_in_range named.Goal has = tt
    act_in_range (named.Do name) has = (place_found acts name (has name (inl refl))).0

numbers_rise_alike : (atoms acts : List (List ℕ)) → Sorted atoms → (rows : List NamedRow) → AllByRecursion (HasNames atoms acts) rows → AllByRecursion (λ r. IsTrue (rises compare_texts r.atoms)) rows → AllByRecursion (λ r. IsTrue (rises nat_cmp r.atoms)) (map (numbered_row atoms acts) rows)
numbers_rise_alike atoms acts sorted [] has rise = tt
numbers_rise_alike atoms acts sorted (r ∷ rows) has rise = (
  sym (names_rise atoms sorted (map (place_of atoms) r.atoms) (places_in_range atoms r.atoms has.0.0)) ∙ ap (rises compare_texts) (names_back atoms r.atoms has.0.0) ∙ rise.0,
  numbers_rise_alike atoms acts sorted rows has.1 rise.1,
)

-- ---- what is used

any_front : (a b : Bool) → a ≡ true → (a || b) ≡ true
any_front a b e = rw e refl

any_later : (a b : Bool) → b ≡ true → (a || b) ≡ true
any_later true b e = refl
any_later false b e = e

place_used : (table texts : List (List ℕ)) (x : List ℕ) → Among texts x → list_any (λ n. eqb n (place_of table x)) (map (place_of table) texts) ≡ true
place_used table [] x among = absurd among
place_used table (text ∷ texts) x (inl is) = any_front (eqb (place_of table text) (place_of table x)) (list_any (λ n. eqb n (place_of table x)) (map (place_of table) texts)) (eq-eqb (place_of table text) (place_of table x) (ap (place_of table) is))
place_used table (text ∷ texts) x (inr among) = any_later (eqb (place_of table text) (place_of table x)) (list_any (λ n. eqb n (place_of table x)) (map (place_of table) texts)) (place_used table texts x among)

module _ (atoms acts : List (List ℕ)) where
  atom_is_used : (rows : List NamedRow) (x : List ℕ) → Among (atoms_in rows) x → uses_atom (map (numbered_row atoms acts) rows) (place_of atoms x) ≡ true
  atom_is_used [] x among = absurd among
  atom_is_used (r ∷ rows) x among = by (among_cases r.atoms (atoms_in rows) x among) (atom_is_used rows x)
    where
      by : Among r.atoms x ⊎ Among (atoms_in rows) x → (Among (atoms_in rows) x → uses_atom (map (numbered_row atoms acts) rows) (place_of atoms x) ≡ true) → uses_atom (map (numbered_row atoms acts) (r ∷ rows)) (place_of atoms x) ≡ true
      by (inl here) later = any_front (list_any (λ n. eqb n (place_of atoms x)) (map (place_of atoms) r.atoms)) (uses_atom (map (numbered_row atoms acts) rows) (place_of atoms x)) (place_used atoms r.atoms x here)
      by (inr there) later = any_later (list_any (λ n. eqb n (place_of atoms x)) (map (place_of atoms) r.atoms)) (uses_atom (map (numbered_row atoms acts) rows) (place_of atoms x)) (later there)

  does_name : (act : NamedAct) (x : List ℕ) → Among (act_names act) x → does (place_of acts x) (numbered_act acts act) ≡ true
  does_name named.GiveUp x among = absurd among
  does_name named.Goal x among = absurd among
  does_name (named.Do name) x (inl is) = eq-eqb (place_of acts name) (place_of acts x) (ap (place_of acts) is)
  does_name (named.Do name) x (inr none) = absurd none

  act_is_used : (rows : List NamedRow) (x : List ℕ) → Among (acts_in rows) x → uses_act (map (numbered_row atoms acts) rows) (place_of acts x) ≡ true
  act_is_used [] x among = absurd among
  act_is_used (r ∷ rows) x among = by (among_cases (act_names r.act) (acts_in rows) x among) (act_is_used rows x)
    where
      by : Among (act_names r.act) x ⊎ Among (acts_in rows) x → (Among (acts_in rows) x → uses_act (map (numbered_row atoms acts) rows) (place_of acts x) ≡ true) → uses_act (map (numbered_row atoms acts) (r ∷ rows)) (place_of acts x) ≡ true
      by (inl here) later = any_front (does (place_of acts x) (numbered_act acts r.act)) (uses_act (map (numbered_row atoms acts) rows) (place_of acts x)) (does_name r.act x here)
      by (inr there) later = any_later (does (place_of acts x) (numbered_act acts r.act)) (uses_act (map (numbered_row atoms acts) rows) (place_of acts x)) (later there)

-- ---- names are lists

atoms_are_lists : (rows : List NamedRow) → AllByRecursion IsNamedRow rows → AllByRecursion IsNameList (atoms_in rows)
atoms_are_lists [] formed = tt
atoms_are_lists (r ∷ rows) formed = all_append IsNameList r.atoms (atoms_in rows) formed.0.atoms (atoms_are_lists rows formed.1)

acts_are_lists : (rows : List NamedRow) → AllByRecursion IsNamedRow rows → AllByRecursion IsNameList (acts_in rows)
acts_are_lists [] formed = tt
acts_are_lists (r ∷ rows) formed = all_append IsNameList (act_names r.act) (acts_in rows) (names_are r.act formed.0.act) (acts_are_lists rows formed.1)
  where
    names_are : (act : NamedAct) → IsNamedAct act → AllByRecursion IsNameList (act_names act)
    names_are named.GiveUp is = tt
    names_are named.Goal is = tt
    names_are (named.Do name) is = (is, tt)

pub numbered_is : (penalty lower upper : ℕ) (rows : List NamedRow) → (1 ≤ penalty) × (penalty ≤ MOST_UNITS) → lower ≤ MOST_UNITS → upper ≤ MOST_UNITS → length rows ≤ MOST_COUNT → AreNamed rows → IsCertificate (numbered penalty lower upper rows)
numbered_is penalty lower upper rows p l u count are =
    let atoms : List (List ℕ) = atoms_table rows in
    let acts : List (List ℕ) = acts_table rows in
    let has : AllByRecursion (HasNames atoms acts) rows = have_own_names rows in
    let sa : Sorted atoms = table_sorted (atoms_in rows) in
    let sj : Sorted acts = table_sorted (acts_in rows) in
    let in_range = numbered_rows_are atoms acts rows are.formed has in record {
      version = inl refl;
      penalty = p;
      lower = l;
      upper = u;
      count = omega (arith, count, length-map rows (numbered_row atoms acts));
      atoms = table_all IsNameList (atoms_in rows) (atoms_are_lists rows are.formed);
      acts = table_all IsNameList (acts_in rows) (acts_are_lists rows are.formed);
      atoms_rise = sorted_rises atoms sa;
      acts_rise = sorted_rises acts sj;
      few_atoms = λ e. absurd (never 1 e refl);
      few_acts = λ e. absurd (never 1 e refl);
      atoms_used = λ i lt. ap (uses_atom (map (numbered_row atoms acts) rows)) (sym (place_is_own atoms i (name_at atoms i) sa lt refl)) ∙ atom_is_used atoms acts rows (name_at atoms i) (table_origin (atoms_in rows) (name_at atoms i) (name_among atoms i lt));
      acts_used = λ i lt. ap (uses_act (map (numbered_row atoms acts) rows)) (sym (place_is_own acts i (name_at acts i) sj lt refl)) ∙ act_is_used atoms acts rows (name_at acts i) (table_origin (acts_in rows) (name_at acts i) (name_among acts i lt));
      rows = in_range;
      numbers_rise = numbers_rise_alike atoms acts sa rows has are.atoms_rise;
      rows_rise = sym (rows_rise_alike atoms acts sa (map (numbered_row atoms acts) rows) in_range) ∙ ap (rises compare_named_rows) (rows_back atoms acts rows has) ∙ are.rows_rise;
    }
  where
    never : (n : ℕ) → n ≡ 2 → n ≡ 1 → ⊥
    never n two one = omega (arith, two, one)
