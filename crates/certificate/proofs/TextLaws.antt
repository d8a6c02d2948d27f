-- A certificate and its text: what was read is spelled so, and what is spelled so is read.
use Rattle.std.proofs.Common.{◌≡◌, ◌⊎◌, inl, inr, ℕ, ◌≤◌, Bool, true, false, cond, ◌&&◌, ◌||◌, ltb, eqb, List, [], ◌∷◌, ◌++◌, length, map, Result, Ok, Err, refl, ap, sym, subst, ◌∙◌, arith, append_assoc}
use Rattle.std.specs.Prelude.{codes, decimal, IfOk}
use Rattle.std.specs.List.{join_with_byte, AllByRecursion}
use Rattle.std.proofs.lemmas.Bool.{and_right, le-ltb, ltb-false}
use Rattle.std.proofs.lemmas.List.{length-map}
use Rattle.std.proofs.lemmas.List.Splits.{join_with_byte-slice_split}
use Rattle.plain_list.specs.Results.{◌>>=◌}
use Rattle.plain_list.proofs.Results.{bind_ok, ok_is, test_fails}
use Rattle.certificate.specs.declared.limits.TheConstants.{MOST_BYTES, MOST_BYTES_1, MOST_COUNT}
use Rattle.certificate.specs.declared.refusal.CertRefusal.{CertRefusal}
use Rattle.certificate.specs.declared.refusal.CertRefusal.TheVariants.{TooLong}
use Rattle.certificate.specs.declared.named.NamedRow.{NamedRow}
use Rattle.certificate.specs.Names.{IsNameList}
use Rattle.certificate.specs.Rows.{Row}
use Rattle.certificate.specs.Spelling.{version_line, penalty_line, interval_line, atoms_line, acts_line, states_line, named_row_line, row_line}
use Rattle.certificate.specs.Content.{Content, content_of, InRange, IsRow, IsCertificate, named_row, named_rows, named_lines, numbered_lines, lines_of, ended, text_of, most_bytes, IsTextOf}
use Rattle.certificate.specs.Decoding.{behind, parts, header_of, penalty_of, interval_of}
use Rattle.certificate.specs.Counted.{said_at}
use Rattle.certificate.specs.Numbering.{numbered}
use Rattle.certificate.specs.Reading.{IsNamedRow, is_some, is_too_long, read_named, read_numbered, read_lines, read_of}
use Rattle.certificate.specs.Answers.{GivesCertificate}
use Rattle.certificate.proofs.Parts.{parts_ended, join_ended}
use Rattle.certificate.proofs.Names.{Lacks, Lacks-append, list_lacks_feed}
use Rattle.certificate.proofs.Decimals.{decimal_lacks}
use Rattle.certificate.proofs.CountedLaws.{said_is, said_again}
use Rattle.certificate.proofs.HeadLaws.{header_is, header_again, penalty_is, penalty_again, interval_is, interval_again}
use Rattle.certificate.proofs.NamedRowLaws.{named_row_lacks_feed}
use Rattle.certificate.proofs.RowLaws.{row_lacks_feed}
use Rattle.certificate.proofs.Numbered.{named_again, numbered_again}
use Rattle.certificate.proofs.NumberedIs.{named_are, numbered_is}
use Rattle.certificate.proofs.Unused.{uses_are, uses_again}
use Rattle.certificate.proofs.ReadLaws.{IsNamedRead, read_named_is, read_named_again, AreNumbered, tail_lines, IsNumberedRead, read_numbered_is, read_numbered_again}

map_itself : (texts : List (List ℕ)) → map (λ text. text) texts ≡ texts
map_itself [] = refl
map_itself (text ∷ texts) = ap (λ (x : List (List ℕ)). text ∷ x) (map_itself texts)

-- ---- the lines of both versions

abbrev head : ℕ → ℕ → ℕ → ℕ → List (List ℕ) → List (List ℕ)
head version penalty lower upper others = version_line version ∷ penalty_line penalty ∷ interval_line lower upper ∷ others

named_lines_are : (penalty lower upper : ℕ) (rows : List NamedRow) → lines_of (numbered penalty lower upper rows) ++ [] ∷ [] ≡ head 1 penalty lower upper (states_line (length rows) ∷ map named_row_line rows ++ codes "end" ∷ [] ∷ [])
named_lines_are penalty lower upper rows =
    let c : Content = numbered penalty lower upper rows in
    ap (λ (n : ℕ). head 1 penalty lower upper (states_line n ∷ ((map named_row_line (named_rows c) ++ codes "end" ∷ []) ++ [] ∷ []))) (length-map rows _)
    ∙ ap (λ (named : List NamedRow). head 1 penalty lower upper (states_line (length rows) ∷ ((map named_row_line named ++ codes "end" ∷ []) ++ [] ∷ []))) (named_again penalty lower upper rows)
    ∙ ap (λ (x : List (List ℕ)). head 1 penalty lower upper (states_line (length rows) ∷ x)) (append_assoc (map named_row_line rows) (codes "end" ∷ []) ([] ∷ []))

-- three lists with lines between, and what stands behind
lists_regroup : (a b c : List (List ℕ)) (j n end last : List ℕ) → (a ++ (j ∷ b ++ (n ∷ c ++ end ∷ []))) ++ last ∷ [] ≡ a ++ (j ∷ (b ++ (n ∷ (c ++ end ∷ last ∷ []))))
lists_regroup a b c j n end last =
    append_assoc a ((j ∷ b) ++ ((n ∷ c) ++ end ∷ [])) (last ∷ [])
    ∙ ap (λ (x : List (List ℕ)). a ++ (j ∷ x)) (append_assoc b ((n ∷ c) ++ end ∷ []) (last ∷ []))
    ∙ ap (λ (x : List (List ℕ)). a ++ (j ∷ (b ++ (n ∷ x)))) (append_assoc c (end ∷ []) (last ∷ []))

numbered_lines_are : (penalty lower upper : ℕ) (atoms acts : List (List ℕ)) (rows : List Row) → lines_of (content_of 2 penalty lower upper atoms acts rows) ++ [] ∷ [] ≡ head 2 penalty lower upper (tail_lines atoms acts rows)
numbered_lines_are penalty lower upper atoms acts rows =
    let last : List (List ℕ) = states_line (length rows) ∷ (map row_line rows ++ codes "end" ∷ [] ∷ []) in
    ap (λ (x : List (List ℕ)). head 2 penalty lower upper (atoms_line (length atoms) ∷ x)) (lists_regroup atoms acts (map row_line rows) (acts_line (length acts)) (states_line (length rows)) (codes "end") [])
    ∙ ap (λ (x : List (List ℕ)). head 2 penalty lower upper (atoms_line (length atoms) ∷ (x ++ (acts_line (length acts) ∷ (acts ++ last))))) (sym (map_itself atoms))
    ∙ ap (λ (x : List (List ℕ)). head 2 penalty lower upper (atoms_line (length atoms) ∷ (map (λ text. text) atoms ++ (acts_line (length acts) ∷ (x ++ last))))) (sym (map_itself acts))

-- ---- what was read

abbrev IsReadAs : List (List ℕ) → Content → Type 0
IsReadAs lines c = IsCertificate c × (lines ≡ lines_of c ++ [] ∷ [])

named_is : (penalty lower upper : ℕ) (rest : List (List ℕ)) (c : Content) → InRange penalty lower upper → IsNamedRead penalty lower upper rest c → IsReadAs (head 1 penalty lower upper rest) c
named_is penalty lower upper rest c range read =
    subst (IsReadAs (head 1 penalty lower upper rest)) (sym read.is) (
      numbered_is penalty lower upper read.rows range.penalty_in range.lower_in range.upper_in read.count read.are,
      ap (head 1 penalty lower upper) read.spelled ∙ sym (named_lines_are penalty lower upper read.rows),
    )

pub content_is : (penalty lower upper : ℕ) (atoms acts : List (List ℕ)) (rows : List Row) → InRange penalty lower upper → AreNumbered atoms acts rows → IsCertificate (content_of 2 penalty lower upper atoms acts rows)
content_is penalty lower upper atoms acts rows range are =
    let used = uses_are (length atoms) (length acts) rows tt are.used in record {
      version = inr refl;
      penalty = range.penalty_in;
      lower = range.lower_in;
      upper = range.upper_in;
      count = are.few.2;
      atoms = are.atoms_formed;
      acts = are.acts_formed;
      atoms_rise = are.atoms_rise;
      acts_rise = are.acts_rise;
      few_atoms = λ e. are.few.0;
      few_acts = λ e. are.few.1;
      atoms_used = used.0;
      acts_used = used.1;
      rows = are.rows_formed;
      numbers_rise = are.numbers_rise;
      rows_rise = are.rows_rise;
    }

numbers_are : (penalty lower upper : ℕ) (rest : List (List ℕ)) (c : Content) → InRange penalty lower upper → IsNumberedRead penalty lower upper rest c → IsReadAs (head 2 penalty lower upper rest) c
numbers_are penalty lower upper rest c range read =
    subst (IsReadAs (head 2 penalty lower upper rest)) (sym read.is) (
      content_is penalty lower upper read.atoms read.acts read.rows range read.are,
      ap (head 2 penalty lower upper) read.spelled ∙ sym (numbered_lines_are penalty lower upper read.atoms read.acts read.rows),
    )

-- what stands behind the first three lines
abbrev from_head : ℕ → ℕ → ℕ → ℕ → List (List ℕ) → Result Content CertRefusal
from_head version penalty lower upper rest = cond (eqb version 1) (read_named penalty lower upper rest) (read_numbered penalty lower upper rest)

head_is : (version penalty lower upper : ℕ) (rest : List (List ℕ)) (c : Content) → (version ≡ 1) ⊎ (version ≡ 2) → InRange penalty lower upper → from_head version penalty lower upper rest ≡ Ok c → IsReadAs (head version penalty lower upper rest) c
head_is version penalty lower upper rest c (inl one) range e =
    subst (λ (v : ℕ). IsReadAs (head v penalty lower upper rest) c) (sym one) (named_is penalty lower upper rest c range (read_named_is penalty lower upper rest c (rw one at e)))
head_is version penalty lower upper rest c (inr two) range e =
    subst (λ (v : ℕ). IsReadAs (head v penalty lower upper rest) c) (sym two) (numbers_are penalty lower upper rest c range (read_numbered_is penalty lower upper rest c (rw two at e)))

pub read_is : (lines : List (List ℕ)) (c : Content) → read_lines lines ≡ Ok c → IsReadAs lines c
unfolding read_lines
read_is lines c e =
    let version = bind_ok (said_at header_of 1 lines) (λ version. said_at penalty_of 2 version.1 >>= λ penalty. said_at interval_of 3 penalty.1 >>= λ interval. from_head version.0 penalty.0 interval.0.0 interval.0.1 interval.1) c e in
    let penalty = bind_ok (said_at penalty_of 2 version.0.1) (λ penalty. said_at interval_of 3 penalty.1 >>= λ interval. from_head version.0.0 penalty.0 interval.0.0 interval.0.1 interval.1) c version.2 in
    let interval = bind_ok (said_at interval_of 3 penalty.0.1) (λ interval. from_head version.0.0 penalty.0.0 interval.0.0 interval.0.1 interval.1) c penalty.2 in
    by version.0.0 version.0.1 version.1 penalty.0.0 penalty.0.1 penalty.1 interval.0.0.0 interval.0.0.1 interval.0.1 interval.1 interval.2
  where
    by : (version : ℕ) (behind_version : List (List ℕ)) → said_at header_of 1 lines ≡ Ok (version, behind_version)
        → (penalty : ℕ) (behind_penalty : List (List ℕ)) → said_at penalty_of 2 behind_version ≡ Ok (penalty, behind_penalty)
        → (lower upper : ℕ) (rest : List (List ℕ)) → said_at interval_of 3 behind_penalty ≡ Ok ((lower, upper), rest)
        → from_head version penalty lower upper rest ≡ Ok c → IsReadAs lines c
    by version behind_version said_v penalty behind_penalty said_p lower upper rest said_i e =
        let v = said_is header_of 1 lines version behind_version said_v in
        let p = said_is penalty_of 2 behind_version penalty behind_penalty said_p in
        let i = said_is interval_of 3 behind_penalty (lower, upper) rest said_i in
        let header = header_is v.0 version v.2 in
        let pay = penalty_is p.0 penalty p.2 in
        let ends = interval_is i.0 lower upper i.2 in
        let range : InRange penalty lower upper = record { penalty_in = (pay.1, pay.2); lower_in = ends.1; upper_in = ends.2 } in
        let spelled : lines ≡ head version penalty lower upper rest =
        v.1 ∙ ap (λ (l : List ℕ). l ∷ behind_version) header.0 ∙ ap (λ (x : List (List ℕ)). version_line version ∷ x) (
        p.1 ∙ ap (λ (l : List ℕ). l ∷ behind_penalty) pay.0 ∙ ap (λ (x : List (List ℕ)). penalty_line penalty ∷ x) (
        i.1 ∙ ap (λ (l : List ℕ). l ∷ rest) ends.0
        )
        ) in
        subst (λ (x : List (List ℕ)). IsReadAs x c) (sym spelled) (head_is version penalty lower upper rest c header.1 range e)

-- ---- what is read again

head_again : (version penalty lower upper : ℕ) (first : List ℕ) (more : List (List ℕ)) → (version ≡ 1) ⊎ (version ≡ 2) → InRange penalty lower upper → read_lines (head version penalty lower upper (first ∷ more)) ≡ from_head version penalty lower upper (first ∷ more)
unfolding read_lines
head_again version penalty lower upper first more known range =
    rw (
      said_again header_of 1 (version_line version) (penalty_line penalty ∷ interval_line lower upper ∷ first ∷ more) version (record { first = penalty_line penalty; others = interval_line lower upper ∷ first ∷ more; is = refl }) (header_again version known),
      said_again penalty_of 2 (penalty_line penalty) (interval_line lower upper ∷ first ∷ more) penalty (record { first = interval_line lower upper; others = first ∷ more; is = refl }) (penalty_again penalty range.penalty_in.0 range.penalty_in.1),
      said_again interval_of 3 (interval_line lower upper) (first ∷ more) (lower, upper) (record { first = first; others = more; is = refl }) (interval_again lower upper range.lower_in range.upper_in),
    ) refl

certificate_range : (c : Content) → IsCertificate c → InRange c.penalty c.lower c.upper
certificate_range c is = record { penalty_in = is.penalty; lower_in = is.lower; upper_in = is.upper }

numbered_are : (c : Content) → c.version ≡ 2 → IsCertificate c → AreNumbered c.atoms c.acts c.rows
numbered_are c version is = record {
  atoms_formed = is.atoms;
  acts_formed = is.acts;
  rows_formed = is.rows;
  atoms_rise = is.atoms_rise;
  acts_rise = is.acts_rise;
  numbers_rise = is.numbers_rise;
  rows_rise = is.rows_rise;
  few = (is.few_atoms version, is.few_acts version, is.count);
  used = uses_again (length c.atoms) (length c.acts) c.rows is.atoms_used is.acts_used;
}

version_is : (c : Content) (v : ℕ) → c.version ≡ v → content_of v c.penalty c.lower c.upper c.atoms c.acts c.rows ≡ c
version_is c v is = ap (λ (w : ℕ). content_of w c.penalty c.lower c.upper c.atoms c.acts c.rows) (sym is)

pub read_again : (c : Content) → IsCertificate c → read_lines (lines_of c ++ [] ∷ []) ≡ Ok c
read_again c is = by is.version
  where
    by : (c.version ≡ 1) ⊎ (c.version ≡ 2) → read_lines (lines_of c ++ [] ∷ []) ≡ Ok c
    by (inl one) =
        let rows : List NamedRow = named_rows c in
        let count : length rows ≤ MOST_COUNT = omega (arith, is.count, length-map c.rows (named_row c.atoms c.acts)) in
        subst (λ (d : Content). read_lines (lines_of d ++ [] ∷ []) ≡ Ok d) (numbered_again c one is) (
        ap read_lines (named_lines_are c.penalty c.lower c.upper rows)
        ∙ head_again 1 c.penalty c.lower c.upper (states_line (length rows)) (map named_row_line rows ++ codes "end" ∷ [] ∷ []) (inl refl) (certificate_range c is)
        ∙ read_named_again c.penalty c.lower c.upper rows count (named_are c is)
        )
    by (inr two) =
        subst (λ (d : Content). read_lines (lines_of d ++ [] ∷ []) ≡ Ok d) (version_is c 2 two) (
        ap read_lines (numbered_lines_are c.penalty c.lower c.upper c.atoms c.acts c.rows)
        ∙ head_again 2 c.penalty c.lower c.upper (atoms_line (length c.atoms)) _ (inr refl) (certificate_range c is)
        ∙ read_numbered_again c.penalty c.lower c.upper c.atoms c.acts c.rows (numbered_are c two is)
        )

-- ---- no line feed stands in a line

abbrev AllLack : List (List ℕ) → Type 0
AllLack lines = AllByRecursion (Lacks 10) lines

all_append : (a b : List (List ℕ)) → AllLack a → AllLack b → AllLack (a ++ b)
all_append [] b p q = q
all_append (x ∷ a) b p q = (p.0, all_append a b p.1 q)

named_rows_lack : (rows : List NamedRow) → AllByRecursion IsNamedRow rows → AllLack (map named_row_line rows)
named_rows_lack [] are = tt
named_rows_lack (r ∷ rows) are = (named_row_lacks_feed r are.0, named_rows_lack rows are.1)

rows_lack : (atoms acts : ℕ) (rows : List Row) → atoms ≤ MOST_COUNT → acts ≤ MOST_COUNT → AllByRecursion (IsRow atoms acts) rows → AllLack (map row_line rows)
rows_lack atoms acts [] few_a few_j are = tt
rows_lack atoms acts (r ∷ rows) few_a few_j are = (row_lacks_feed atoms acts r few_a few_j are.0, rows_lack atoms acts rows few_a few_j are.1)

entries_lack : (table : List (List ℕ)) → AllByRecursion IsNameList table → AllLack table
entries_lack [] are = tt
entries_lack (x ∷ table) are = (list_lacks_feed x are.0, entries_lack table are.1)

version_lacks : (v : ℕ) → (v ≡ 1) ⊎ (v ≡ 2) → Lacks 10 (version_line v)
version_lacks v (inl is) = rw is refl
version_lacks v (inr is) = rw is refl

count_lacks : (word : List ℕ) (n : ℕ) → Lacks 10 word → n ≤ MOST_COUNT → Lacks 10 (word ++ decimal n)
count_lacks word n lacks few = Lacks-append 10 word (decimal n) lacks (decimal_lacks 10 n (omega arith) (omega (arith, few)))

tail_lack : (c : Content) → IsCertificate c → AllLack (cond (eqb c.version 1) (named_lines c) (numbered_lines c))
tail_lack c is = by is.version
  where
    by : (c.version ≡ 1) ⊎ (c.version ≡ 2) → AllLack (cond (eqb c.version 1) (named_lines c) (numbered_lines c))
    by (inl one) = rw one (
      count_lacks (codes "states ") (length c.rows) refl is.count,
      all_append (map named_row_line (named_rows c)) (codes "end" ∷ []) (named_rows_lack (named_rows c) (named_are c is).formed) (refl, tt),
    )
    by (inr two) =
        let last : List (List ℕ) = map row_line c.rows ++ codes "end" ∷ [] in
        let behind : List (List ℕ) = c.acts ++ (states_line (length c.rows) ∷ last) in
        rw two (
          count_lacks (codes "atoms ") (length c.atoms) refl (is.few_atoms two),
          all_append c.atoms (acts_line (length c.acts) ∷ behind) (entries_lack c.atoms is.atoms) (
            count_lacks (codes "acts ") (length c.acts) refl (is.few_acts two),
            all_append c.acts (states_line (length c.rows) ∷ last) (entries_lack c.acts is.acts) (
              count_lacks (codes "states ") (length c.rows) refl is.count,
              all_append (map row_line c.rows) (codes "end" ∷ []) (rows_lack (length c.atoms) (length c.acts) c.rows (is.few_atoms two) (is.few_acts two) is.rows) (refl, tt),
            ),
          ),
        )

lines_lack : (c : Content) → IsCertificate c → AllLack (lines_of c)
lines_lack c is = (
  version_lacks c.version is.version,
  (
    decimal_lacks 10 c.penalty (omega arith) is.penalty.1,
    (
      Lacks-append 10 (decimal c.lower) (32 ∷ decimal c.upper) (decimal_lacks 10 c.lower (omega arith) is.lower) (decimal_lacks 10 c.upper (omega arith) is.upper),
      tail_lack c is,
    ),
  ),
)

-- ---- the whole

text_reads : (c : Content) → IsCertificate c → read_lines (parts 10 (text_of c)) ≡ Ok c
text_reads c is = ap read_lines (parts_ended (lines_of c) (lines_lack c is)) ∙ read_again c is

bytes_are : (bytes : List ℕ) (c : Content) → read_lines (parts 10 bytes) ≡ Ok c → IsTextOf bytes c
bytes_are bytes c e =
    let read = read_is (parts 10 bytes) c e in
    (read.0, sym (join_with_byte-slice_split 10 bytes) ∙ ap (join_with_byte 10) read.1 ∙ join_ended (lines_of c))

-- texts of each version begin so
begins_first : (c : Content) → c.version ≡ 1 → is_some (behind (ended (codes "cert 1")) (text_of c)) ≡ true
begins_first c one = rw one refl

begins_second : (c : Content) → c.version ≡ 2 → is_some (behind (ended (codes "cert 1")) (text_of c)) ≡ false
begins_second c two = rw two refl

fits : (bytes : List ℕ) (c : Content) → length bytes ≤ most_bytes c.version → IsTextOf bytes c → is_too_long bytes ≡ false
fits bytes c short is = by is.0.version
  where
    by : (c.version ≡ 1) ⊎ (c.version ≡ 2) → is_too_long bytes ≡ false
    by (inl one) =
        let low : length bytes ≤ MOST_BYTES_1 = rw one at short in
        rw (le-ltb MOST_BYTES (length bytes) (omega (arith, low)), le-ltb MOST_BYTES_1 (length bytes) low) refl
    by (inr two) =
        let low : length bytes ≤ MOST_BYTES = rw two at short in
        let other : is_some (behind (ended (codes "cert 1")) bytes) ≡ false = ap (λ (b : List ℕ). is_some (behind (ended (codes "cert 1")) b)) is.1 ∙ begins_second c two in
        rw (le-ltb MOST_BYTES (length bytes) low, other) (and_right (ltb MOST_BYTES_1 (length bytes)) false refl)

is_short : (bytes : List ℕ) (c : Content) → is_too_long bytes ≡ false → IsTextOf bytes c → length bytes ≤ most_bytes c.version
is_short bytes c short is = by is.0.version
  where
    or_left : (a b : Bool) → (a || b) ≡ false → a ≡ false
    or_left true b e = absurd cc
    or_left false b e = refl

    or_right : (a b : Bool) → (a || b) ≡ false → b ≡ false
    or_right true b e = absurd cc
    or_right false b e = e

    and_left : (a b : Bool) → b ≡ true → (a && b) ≡ false → a ≡ false
    and_left true b t e = sym t ∙ e
    and_left false b t e = refl

    by : (c.version ≡ 1) ⊎ (c.version ≡ 2) → length bytes ≤ most_bytes c.version
    by (inl one) =
        let first : is_some (behind (ended (codes "cert 1")) bytes) ≡ true = ap (λ (b : List ℕ). is_some (behind (ended (codes "cert 1")) b)) is.1 ∙ begins_first c one in
        let low = ltb-false MOST_BYTES_1 (length bytes) (and_left (ltb MOST_BYTES_1 (length bytes)) _ first (or_right (ltb MOST_BYTES (length bytes)) _ short)) in
        rw one low
    by (inr two) =
        let low = ltb-false MOST_BYTES (length bytes) (or_left (ltb MOST_BYTES (length bytes)) _ short) in
        rw two low

pub read_is_text : (bytes : List ℕ) (c : Content) → read_of bytes ≡ Ok c → IsTextOf bytes c × (length bytes ≤ most_bytes c.version)
unfolding read_of
read_is_text bytes c e =
    let parted = test_fails (is_too_long bytes) TooLong (read_lines (parts 10 bytes)) c e in
    let is = bytes_are bytes c parted.1 in
    (is, is_short bytes c parted.0 is)

pub text_is_read : (bytes : List ℕ) (c : Content) → length bytes ≤ most_bytes c.version → IsTextOf bytes c → read_of bytes ≡ Ok c
unfolding read_of
text_is_read bytes c short is = rw (fits bytes c short is) (ap (λ (b : List ℕ). read_lines (parts 10 b)) is.1 ∙ text_reads c is.0)

pub texts_differ : (bytes : List ℕ) (c d : Content) → IsTextOf bytes c → IsTextOf bytes d → c ≡ d
texts_differ bytes c d first second =
    let read_c : read_lines (parts 10 bytes) ≡ Ok c = ap (λ (b : List ℕ). read_lines (parts 10 b)) first.1 ∙ text_reads c first.0 in
    let read_d : read_lines (parts 10 bytes) ≡ Ok d = ap (λ (b : List ℕ). read_lines (parts 10 b)) second.1 ∙ text_reads d second.0 in
    ok_is c d (sym read_c ∙ read_d)

pub is_found : (bytes : List ℕ) (result : Result Content CertRefusal) → GivesCertificate (λ found. found) result (read_of bytes) → IfOk result (IsTextOf bytes)
is_found bytes (Ok c) given = (read_is_text bytes c given).0
is_found bytes (Err e) given = tt
