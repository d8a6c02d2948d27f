-- What certificates say, which of them are in form and in order, and their one text.
--     Row, Content                           what a certificate says; numbers are places in its tables
--     content_of ..                          the content with these parts
--     compare_rows                           the order of rows: by their lists of numbers, a prefix first
--     IsRow atom_count act_count r                   the row is in range over tables of so many entries
--     InRange penalty lower upper            these values may stand in a text
--     uses_atom rows i, uses_act rows i      some row uses the entry in place i of the table
--     IsCertificate c                        c has the form, the range and the order of its version
--     named_rows c                           the rows with names in place of numbers
--     text_of c                              the lines of c in its version, each ended by one line feed
--     most_bytes version                     the greatest length of a text of the version
--     IsTextOf bytes c                       the bytes are the text of the certificate c
use Rattle.std.specs.Prelude.{◌≡◌, ◌⊎◌, ℕ, ◌<◌, ◌≤◌, eqb, Bool, false, cond, IsTrue}
use Rattle.std.specs.Prelude.{List, [], ◌∷◌, ◌++◌, length, map, get_or, codes}
use Rattle.std.specs.List.{flat_map, list_any, AllByRecursion}
use Rattle.std.specs.declared.cmp.Ordering.{Ordering}
use Rattle.std.specs.Ordering.{nat_cmp}
use Rattle.std.specs.Cmp.Lexicographic.{slice_cmp}
use Rattle.plain_list.specs.Texts.{compare_texts, rises}
use Rattle.certificate.specs.declared.limits.TheConstants.{MOST_UNITS, MOST_COUNT}
use Rattle.certificate.specs.declared.limits.TheConstants.{MOST_BYTES, MOST_BYTES_1}
use Rattle.certificate.specs.declared.act.Act.{Act}
use Rattle.certificate.specs.declared.act.Act.TheVariants.{GiveUp, Goal, Do}
use Rattle.certificate.specs.declared.named.NamedAct.{NamedAct}
use Rattle.certificate.specs.declared.named.NamedAct.TheVariants as named
use Rattle.certificate.specs.declared.named.NamedRow.{NamedRow}
use Rattle.certificate.specs.Names.{IsNameList}
use Rattle.certificate.specs.Rows.{Row}
use Rattle.certificate.specs.Spelling.{version_line, penalty_line, interval_line}
use Rattle.certificate.specs.Spelling.{atoms_line, acts_line, states_line, row_line, named_row_line}

pub record Content : Type 0 where
  pub version : ℕ
  pub penalty : ℕ
  pub lower : ℕ
  pub upper : ℕ
  pub atoms : List (List ℕ)
  pub acts : List (List ℕ)
  pub rows : List Row

abbrev pub content_of : ℕ → ℕ → ℕ → ℕ → List (List ℕ) → List (List ℕ) → List Row → Content
content_of version penalty lower upper atoms acts rows = record {
  version = version;
  penalty = penalty;
  lower = lower;
  upper = upper;
  atoms = atoms;
  acts = acts;
  rows = rows;
}

-- ---- form, range and order

abbrev pub compare_rows : Row → Row → Ordering
compare_rows r s = slice_cmp nat_cmp r.atoms s.atoms

abbrev pub IsAct : ℕ → Act → Type 0
IsAct acts GiveUp = Unit {0}
IsAct acts Goal = Unit {0}
IsAct acts (Do n) = n < acts

pub record IsRow (atom_count act_count : ℕ) (r : Row) : Type 0 where
  pub lower : r.lower ≤ MOST_UNITS
  pub upper : r.upper ≤ MOST_UNITS
  pub act : IsAct act_count r.act
  pub atoms : AllByRecursion (λ n. n < atom_count) r.atoms

abbrev pub does : ℕ → Act → Bool
does i GiveUp = false
does i Goal = false
does i (Do n) = eqb n i

abbrev pub uses_atom : List Row → ℕ → Bool
uses_atom rows i = list_any (λ (r : Row). list_any (λ n. eqb n i) r.atoms) rows

abbrev pub uses_act : List Row → ℕ → Bool
uses_act rows i = list_any (λ (r : Row). does i r.act) rows

-- a penalty and an interval in range; the lower end may be above the upper one
pub record InRange (penalty lower upper : ℕ) : Type 0 where
  pub penalty_in : (1 ≤ penalty) × (penalty ≤ MOST_UNITS)
  pub lower_in : lower ≤ MOST_UNITS
  pub upper_in : upper ≤ MOST_UNITS

pub record IsCertificate (c : Content) : Type 0 where
  pub version : (c.version ≡ 1) ⊎ (c.version ≡ 2)
  pub penalty : (1 ≤ c.penalty) × (c.penalty ≤ MOST_UNITS)
  pub lower : c.lower ≤ MOST_UNITS
  pub upper : c.upper ≤ MOST_UNITS
  pub count : length c.rows ≤ MOST_COUNT
  -- the tables; those of version 1 have no bound
  pub atoms : AllByRecursion IsNameList c.atoms
  pub acts : AllByRecursion IsNameList c.acts
  pub atoms_rise : IsTrue (rises compare_texts c.atoms)
  pub acts_rise : IsTrue (rises compare_texts c.acts)
  pub few_atoms : c.version ≡ 2 → length c.atoms ≤ MOST_COUNT
  pub few_acts : c.version ≡ 2 → length c.acts ≤ MOST_COUNT
  pub atoms_used : (i : ℕ) → i < length c.atoms → IsTrue (uses_atom c.rows i)
  pub acts_used : (i : ℕ) → i < length c.acts → IsTrue (uses_act c.rows i)
  -- the rows
  pub rows : AllByRecursion (IsRow (length c.atoms) (length c.acts)) c.rows
  pub numbers_rise : AllByRecursion (λ r. IsTrue (rises nat_cmp r.atoms)) c.rows
  pub rows_rise : IsTrue (rises compare_rows c.rows)

-- ---- names in place of numbers

abbrev pub name_at : List (List ℕ) → ℕ → List ℕ
name_at table i = get_or table i []

abbrev pub named_act : List (List ℕ) → Act → NamedAct
named_act acts GiveUp = named.GiveUp
named_act acts Goal = named.Goal
named_act acts (Do n) = named.Do (name_at acts n)

abbrev pub named_row : List (List ℕ) → List (List ℕ) → Row → NamedRow
named_row atoms acts r = record {
  lower = r.lower;
  upper = r.upper;
  act = named_act acts r.act;
  atoms = map (name_at atoms) r.atoms;
}

abbrev pub named_rows : Content → List NamedRow
named_rows c = map (named_row c.atoms c.acts) c.rows

-- ---- the text

-- the lines that both versions begin with
abbrev pub first_lines : Content → List (List ℕ)
first_lines c = version_line c.version ∷ penalty_line c.penalty ∷ interval_line c.lower c.upper ∷ []

-- of version 1, whose rows have names
abbrev pub named_lines : Content → List (List ℕ)
named_lines c = states_line (length c.rows) ∷ map named_row_line (named_rows c) ++ codes "end" ∷ []

-- of version 2, whose rows have numbers
abbrev pub numbered_lines : Content → List (List ℕ)
numbered_lines c =
    atoms_line (length c.atoms) ∷ c.atoms ++ (
    acts_line (length c.acts) ∷ c.acts ++ (
    states_line (length c.rows) ∷ map row_line c.rows ++ codes "end" ∷ []
    )
    )

abbrev pub lines_of : Content → List (List ℕ)
lines_of c = first_lines c ++ cond (eqb c.version 1) (named_lines c) (numbered_lines c)

abbrev pub ended : List ℕ → List ℕ
ended line = line ++ 10 ∷ []

abbrev pub text_of : Content → List ℕ
text_of c = flat_map ended (lines_of c)

abbrev pub most_bytes : ℕ → ℕ
most_bytes version = cond (eqb version 1) MOST_BYTES_1 MOST_BYTES

-- the bytes are the text of the certificate c
abbrev pub IsTextOf : List ℕ → Content → Type 0
IsTextOf bytes c = IsCertificate c × (bytes ≡ text_of c)
