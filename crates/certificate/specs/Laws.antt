-- The laws that tie the reading of a text to its spelling, as statements.
--     HeaderIsSpelled, PenaltyIsSpelled, IntervalIsSpelled, CountIsSpelled, EntryIsSpelled,
--     NamedRowIsSpelled, RowIsSpelled
--                                    a line has the form of its place where it is spelled so
--     TextsAreRead                   a certificate is read exactly where the bytes are its text and
--                                    no longer than those of its version may be
--     LongTextsAreRefused            beyond it none is read
--     TextsDiffer, EachHasOneText    no two certificates have one text, and none has two
--     NamesRiseAsNumbers, RowsRiseAsNumbers
--                                    over a table that rises, names are in the order of their places
use Rattle.std.specs.Prelude.{◌≡◌, ◌↔◌, ◌⊎◌, ℕ, ◌<◌, ◌≤◌, List, ◌++◌, length, map, IsTrue}
use Rattle.std.specs.Prelude.{Some, Ok, Err}
use Rattle.std.specs.List.{AllByRecursion}
use Rattle.std.specs.Ordering.{nat_cmp}
use Rattle.std.specs.Cmp.Lexicographic.{slice_cmp}
use Rattle.plain_list.specs.Texts.{compare_texts, rises}
use Rattle.std.specs.Prelude.{decimal}
use Rattle.certificate.specs.declared.limits.TheConstants.{MOST_UNITS, MOST_COUNT}
use Rattle.certificate.specs.declared.named.NamedRow.{NamedRow}
use Rattle.certificate.specs.declared.refusal.CertRefusal.TheVariants.{TooLong}
use Rattle.certificate.specs.Names.{IsNameList}
use Rattle.certificate.specs.Rows.{Row}
use Rattle.certificate.specs.Spelling.{version_line, penalty_line, interval_line}
use Rattle.certificate.specs.Spelling.{named_row_line, row_line}
use Rattle.certificate.specs.Content.{Content, IsRow, IsTextOf, most_bytes, name_at}
use Rattle.certificate.specs.Decoding.{header_of, penalty_of, interval_of, count_of, list_of}
use Rattle.certificate.specs.Decoding.{named_row_of, row_of}
use Rattle.certificate.specs.Reading.{read_of, IsNamedRow, IsTooLong}

abbrev pub HeaderIsSpelled : Type 0
HeaderIsSpelled = (line : List ℕ) (v : ℕ)
    → (header_of line ≡ Some v) ↔ ((line ≡ version_line v) × ((v ≡ 1) ⊎ (v ≡ 2)))

abbrev pub PenaltyIsSpelled : Type 0
PenaltyIsSpelled = (line : List ℕ) (v : ℕ)
    → (penalty_of line ≡ Some v) ↔ ((line ≡ penalty_line v) × (1 ≤ v) × (v ≤ MOST_UNITS))

abbrev pub IntervalIsSpelled : Type 0
IntervalIsSpelled = (line : List ℕ) (lower upper : ℕ)
    → (interval_of line ≡ Some (lower, upper))
    ↔ ((line ≡ interval_line lower upper) × (lower ≤ MOST_UNITS) × (upper ≤ MOST_UNITS))

abbrev pub CountIsSpelled : Type 0
CountIsSpelled = (word line : List ℕ) (n : ℕ)
    → (count_of word line ≡ Some n) ↔ ((line ≡ word ++ decimal n) × (n ≤ MOST_COUNT))

abbrev pub EntryIsSpelled : Type 0
EntryIsSpelled = (line entry : List ℕ)
    → (list_of line ≡ Some entry) ↔ ((line ≡ entry) × IsNameList entry)

abbrev pub NamedRowIsSpelled : Type 0
NamedRowIsSpelled = (line : List ℕ) (r : NamedRow)
    → (named_row_of line ≡ Some r) ↔ ((line ≡ named_row_line r) × IsNamedRow r)

abbrev pub RowIsSpelled : Type 0
RowIsSpelled = (atoms acts : ℕ) (line : List ℕ) (r : Row)
    → atoms ≤ MOST_COUNT → acts ≤ MOST_COUNT
    → (row_of atoms acts line ≡ Some r) ↔ ((line ≡ row_line r) × IsRow atoms acts r)

abbrev pub TextsAreRead : Type 0
TextsAreRead = (bytes : List ℕ) (c : Content)
    → (read_of bytes ≡ Ok c) ↔ (IsTextOf bytes c × (length bytes ≤ most_bytes c.version))

abbrev pub LongTextsAreRefused : Type 0
LongTextsAreRefused = (bytes : List ℕ) → (read_of bytes ≡ Err TooLong) ↔ IsTooLong bytes

abbrev pub TextsDiffer : Type 0
TextsDiffer = (bytes : List ℕ) (c d : Content) → IsTextOf bytes c → IsTextOf bytes d → c ≡ d

abbrev pub EachHasOneText : Type 0
EachHasOneText = (a b : List ℕ) (c : Content) → IsTextOf a c → IsTextOf b c → a ≡ b

-- in version 1 the atoms of rows rise as their numbers do, and so do the rows
abbrev pub NamesRiseAsNumbers : Type 0
NamesRiseAsNumbers = (table : List (List ℕ)) (numbers : List ℕ)
    → IsTrue (rises compare_texts table) → AllByRecursion (λ n. n < length table) numbers
    → rises compare_texts (map (name_at table) numbers) ≡ rises nat_cmp numbers

abbrev pub RowsRiseAsNumbers : Type 0
RowsRiseAsNumbers = (table : List (List ℕ)) (a b : List ℕ)
    → IsTrue (rises compare_texts table)
    → AllByRecursion (λ n. n < length table) a → AllByRecursion (λ n. n < length table) b
    → slice_cmp compare_texts (map (name_at table) a) (map (name_at table) b)
    ≡ slice_cmp nat_cmp a b
