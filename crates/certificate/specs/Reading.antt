-- What a text says by its lines, or the first line that is wrong.
--     read_of bytes     the certificate that the bytes are the text of, or why they are none
use Rattle.std.specs.Prelude.{◌≡◌, ◌⊎◌, ℕ, zero, suc, ◌+◌, ◌<◌, ◌≤◌, ltb, eqb, Bool, true, false, cond, ◌&&◌, ◌||◌}
use Rattle.std.specs.Prelude.{List, [], ◌∷◌, ◌++◌, length, codes, option_map}
use Rattle.std.specs.Prelude.{Option, Some, None, Result, Ok, Err}
use Rattle.std.specs.List.{AllByRecursion}
use Rattle.std.specs.Option.{option_or}
use Rattle.std.specs.declared.cmp.Ordering.{Ordering}
use Rattle.std.specs.Ordering.{nat_cmp}
use Rattle.std.specs.Str.{bytes_eq}
use Rattle.std.specs.Cmp.Lexicographic.{slice_cmp}
use Rattle.plain_list.specs.Results.{◌>>=◌}
use Rattle.plain_list.specs.Texts.{rises, compare_texts}
use Rattle.certificate.specs.declared.limits.TheConstants.{MOST_BYTES, MOST_BYTES_1, MOST_UNITS}
use Rattle.certificate.specs.declared.named.NamedAct.{NamedAct}
use Rattle.certificate.specs.declared.named.NamedAct.TheVariants as named
use Rattle.certificate.specs.declared.named.NamedRow.{NamedRow}
use Rattle.certificate.specs.declared.refusal.CertRefusal.{CertRefusal}
use Rattle.certificate.specs.declared.refusal.CertRefusal.TheVariants.{Syntax, TooLong, Unused}
use Rattle.certificate.specs.Names.{IsNameList}
use Rattle.certificate.specs.Rows.{Row}
use Rattle.certificate.specs.Content.{Content, content_of, compare_rows, uses_atom, uses_act, ended}
use Rattle.certificate.specs.Numbering.{numbered}
use Rattle.certificate.specs.Counted.{Counted, said_at, items_at, stop_at}
use Rattle.certificate.specs.Decoding.{only_if, behind, parts, header_of, penalty_of, interval_of}
use Rattle.certificate.specs.Decoding.{count_of, list_of, named_row_of, row_of}

-- ---- the lists of lines

abbrev pub end_of : List ℕ → Option (Unit {0})
end_of line = only_if (bytes_eq line (codes "end")) tt

-- a row of version 1 in form
abbrev pub IsNamedAct : NamedAct → Type 0
IsNamedAct named.GiveUp = Unit {0}
IsNamedAct named.Goal = Unit {0}
IsNamedAct (named.Do name) = IsNameList name

pub record IsNamedRow (r : NamedRow) : Type 0 where
  pub lower : r.lower ≤ MOST_UNITS
  pub upper : r.upper ≤ MOST_UNITS
  pub act : IsNamedAct r.act
  pub atoms : AllByRecursion IsNameList r.atoms

-- the order of rows of version 1: by their lists of atoms, a prefix first
abbrev pub compare_named_rows : NamedRow → NamedRow → Ordering
compare_named_rows r s = slice_cmp compare_texts r.atoms s.atoms

-- rows of version 1
abbrev pub named_rows_list : Counted NamedRow (Unit {0})
named_rows_list = record {
  item = named_row_of;
  stop = end_of;
  own = λ r. rises compare_texts r.atoms;
  order = compare_named_rows;
}

-- a table, behind which this word stands with a count
abbrev pub table_list : List ℕ → Counted (List ℕ) ℕ
table_list word = record {
  item = list_of;
  stop = count_of word;
  own = λ text. true;
  order = compare_texts;
}

-- rows of version 2, over tables of so many entries
abbrev pub rows_list : ℕ → ℕ → Counted Row (Unit {0})
rows_list atoms acts = record {
  item = row_of atoms acts;
  stop = end_of;
  own = λ r. rises nat_cmp r.atoms;
  order = compare_rows;
}

-- behind `end` stands nothing
abbrev pub nothing_at : ℕ → List (List ℕ) → Result (Unit {0}) CertRefusal
nothing_at k [] = Err (Syntax k)
nothing_at k (last ∷ []) = cond (eqb (length last) 0) (Ok tt) (Err (Syntax k))
nothing_at k (line ∷ next ∷ more) = Err (Syntax k)

-- ---- tables that have what the rows use, and nothing else

-- the first of n numbers from i on that is not used
abbrev pub first_unused : (ℕ → Bool) → ℕ → ℕ → Option ℕ
first_unused used i zero = None
first_unused used i (suc n) = cond (used i) (first_unused used (i + 1) n) (Some i)

-- the first line of a table that no row uses; atoms stand from line 5 on, acts behind them
abbrev pub unused_line : ℕ → ℕ → List Row → Option ℕ
unused_line atoms acts rows =
    option_or (option_map (λ i. 5 + i) (first_unused (uses_atom rows) 0 atoms))
    (option_map (λ i. 6 + atoms + i) (first_unused (uses_act rows) 0 acts))

abbrev pub or_unused : Option ℕ → Result (Unit {0}) CertRefusal
or_unused None = Ok tt
or_unused (Some k) = Err (Unused k)

-- ---- the whole

-- the lines from 4 on of version 1
unfoldable pub read_named : ℕ → ℕ → ℕ → List (List ℕ) → Result Content CertRefusal
read_named penalty lower upper lines = do
  count ← said_at (count_of (codes "states ")) 4 lines
  rows ← items_at named_rows_list count.0 None 5 count.1
  end ← stop_at named_rows_list (5 + count.0) rows.1
  ended ← nothing_at (6 + count.0) end.1
  Ok (numbered penalty lower upper rows.0)

-- the lines from 4 on of version 2
unfoldable pub read_numbered : ℕ → ℕ → ℕ → List (List ℕ) → Result Content CertRefusal
read_numbered penalty lower upper lines = do
  k ← said_at (count_of (codes "atoms ")) 4 lines
  atoms ← items_at (table_list (codes "acts ")) k.0 None 5 k.1
  j ← stop_at (table_list (codes "acts ")) (5 + k.0) atoms.1
  acts ← items_at (table_list (codes "states ")) j.0 None (6 + k.0) j.1
  n ← stop_at (table_list (codes "states ")) (6 + k.0 + j.0) acts.1
  rows ← items_at (rows_list k.0 j.0) n.0 None (7 + k.0 + j.0) n.1
  end ← stop_at (rows_list k.0 j.0) (7 + k.0 + j.0 + n.0) rows.1
  ended ← nothing_at (8 + k.0 + j.0 + n.0) end.1
  used ← or_unused (unused_line k.0 j.0 rows.0)
  Ok (content_of 2 penalty lower upper atoms.0 acts.0 rows.0)

unfoldable pub read_lines : List (List ℕ) → Result Content CertRefusal
read_lines lines = do
  version ← said_at header_of 1 lines
  penalty ← said_at penalty_of 2 version.1
  interval ← said_at interval_of 3 penalty.1
  cond (eqb version.0 1)
      (read_named penalty.0 interval.0.0 interval.0.1 interval.1)
      (read_numbered penalty.0 interval.0.0 interval.0.1 interval.1)

abbrev pub is_some : {A : Type 0} → Option A → Bool
is_some None = false
is_some (Some x) = true

-- longer than texts of version 2 may be, or a text of version 1 that is longer than those may be
pub record BeginsWith (front bytes : List ℕ) : Type 0 where
  pub rest : List ℕ
  pub is : bytes ≡ front ++ rest

abbrev pub IsTooLong : List ℕ → Type 0
IsTooLong bytes =
    (MOST_BYTES < length bytes)
    ⊎ ((MOST_BYTES_1 < length bytes) × BeginsWith (ended (codes "cert 1")) bytes)

abbrev pub is_too_long : List ℕ → Bool
is_too_long bytes =
    ltb MOST_BYTES (length bytes)
    || ltb MOST_BYTES_1 (length bytes) && is_some (behind (ended (codes "cert 1")) bytes)

unfoldable pub read_of : List ℕ → Result Content CertRefusal
read_of bytes = cond (is_too_long bytes) (Err TooLong) (read_lines (parts 10 bytes))
