-- A certificate and its lines: what was read is spelled so, and what is spelled so is read.
use Rattle.std.proofs.Common.{◌≡◌, ℕ, ◌+◌, ◌≤◌, true, List, [], ◌∷◌, ◌++◌, length, map, Some, None, Result, Ok, refl, ap, sym, subst, ◌∙◌, arith}
use Rattle.std.specs.Prelude.{codes, IsTrue}
use Rattle.std.specs.List.{AllByRecursion}
use Rattle.std.specs.Ordering.{nat_cmp}
use Rattle.plain_list.specs.Texts.{compare_texts, rises}
use Rattle.plain_list.specs.Results.{◌>>=◌}
use Rattle.plain_list.proofs.Results.{bind_ok, ok_is}
use Rattle.certificate.specs.declared.limits.TheConstants.{MOST_COUNT}
use Rattle.certificate.specs.declared.refusal.CertRefusal.{CertRefusal}
use Rattle.certificate.specs.declared.named.NamedRow.{NamedRow}
use Rattle.certificate.specs.Names.{IsNameList}
use Rattle.certificate.specs.Rows.{Row}
use Rattle.certificate.specs.Spelling.{atoms_line, acts_line, states_line, named_row_line, row_line}
use Rattle.certificate.specs.Content.{Content, content_of, compare_rows, IsRow}
use Rattle.certificate.specs.Decoding.{count_of}
use Rattle.certificate.specs.Counted.{said_at, items_at, stop_at, Counted}
use Rattle.certificate.specs.Numbering.{numbered}
use Rattle.certificate.specs.Reading.{IsNamedRow, named_rows_list, table_list, rows_list, nothing_at, unused_line, or_unused, read_named, read_numbered}
use Rattle.certificate.proofs.Parts.{HasFirst}
use Rattle.certificate.proofs.CountedLaws.{said_is, said_again, order_parts, order_again, items_are, items_again, stop_is, stop_again}
use Rattle.certificate.proofs.HeadLaws.{count_is, count_again, nothing_is, end_is, spaced_is_no_end, list_is_no_count}
use Rattle.certificate.proofs.NamedRowLaws.{named_row_is, named_row_again, entry_is, entry_again}
use Rattle.certificate.proofs.RowLaws.{row_is, row_again}
use Rattle.certificate.proofs.NumberedIs.{AreNamed}

abbrev pub itself : List ℕ → List ℕ
itself text = text

-- ---- version 1

pub record IsNamedRead (penalty lower upper : ℕ) (lines : List (List ℕ)) (c : Content) : Type 0 where
  pub rows : List NamedRow
  pub is : c ≡ numbered penalty lower upper rows
  pub count : length rows ≤ MOST_COUNT
  pub are : AreNamed rows
  pub spelled : lines ≡ states_line (length rows) ∷ map named_row_line rows ++ codes "end" ∷ [] ∷ []

pub read_named_is : (penalty lower upper : ℕ) (lines : List (List ℕ)) (c : Content) → read_named penalty lower upper lines ≡ Ok c → IsNamedRead penalty lower upper lines c
unfolding read_named
read_named_is penalty lower upper lines c e =
    let count = bind_ok (said_at (count_of (codes "states ")) 4 lines) (λ count. items_at named_rows_list count.0 None 5 count.1 >>= λ rows. stop_at named_rows_list (5 + count.0) rows.1 >>= λ end. nothing_at (6 + count.0) end.1 >>= λ ended. Ok (numbered penalty lower upper rows.0)) c e in
    let rows = bind_ok (items_at named_rows_list count.0.0 None 5 count.0.1) (λ rows. stop_at named_rows_list (5 + count.0.0) rows.1 >>= λ end. nothing_at (6 + count.0.0) end.1 >>= λ ended. Ok (numbered penalty lower upper rows.0)) c count.2 in
    let end = bind_ok (stop_at named_rows_list (5 + count.0.0) rows.0.1) (λ end. nothing_at (6 + count.0.0) end.1 >>= λ ended. Ok (numbered penalty lower upper rows.0.0)) c rows.2 in
    let ended = bind_ok (nothing_at (6 + count.0.0) end.0.1) (λ ended. Ok (numbered penalty lower upper rows.0.0)) c end.2 in
    let said = said_is (count_of (codes "states ")) 4 lines count.0.0 count.0.1 count.1 in
    let counted = count_is (codes "states ") said.0 count.0.0 said.2 in
    let found = items_are named_rows_list named_row_line IsNamedRow named_row_is count.0.0 None 5 count.0.1 rows.0.0 rows.0.1 rows.1 in
    let ordered = order_parts named_rows_list None rows.0.0 found.3 in
    let stopped = stop_is named_rows_list (5 + count.0.0) rows.0.1 end.0.0 end.0.1 end.1 in
    let last : rows.0.1 ≡ codes "end" ∷ [] ∷ [] =
    stopped.1 ∙ ap (λ (l : List ℕ). l ∷ end.0.1) (end_is stopped.0 end.0.0 stopped.2) ∙ ap (λ (r : List (List ℕ)). codes "end" ∷ r) (nothing_is (6 + count.0.0) end.0.1 ended.0 ended.1) in
    let head : said.0 ≡ states_line (length rows.0.0) = counted.0 ∙ ap states_line (sym found.1) in record {
      rows = rows.0.0;
      is = sym (ok_is (numbered penalty lower upper rows.0.0) c ended.2);
      count = omega (arith, counted.1, found.1);
      are = record { formed = found.2; atoms_rise = ordered.0; rows_rise = ordered.1 };
      spelled = said.1 ∙ ap (λ (l : List ℕ). l ∷ count.0.1) head ∙ ap (λ (r : List (List ℕ)). states_line (length rows.0.0) ∷ r) (found.0 ∙ ap (λ (r : List (List ℕ)). map named_row_line rows.0.0 ++ r) last);
    }

HasFirst-behind : (front : List (List ℕ)) (next : List ℕ) (more : List (List ℕ)) → HasFirst (front ++ next ∷ more)
HasFirst-behind [] next more = record { first = next; others = more; is = refl }
HasFirst-behind (line ∷ front) next more = record { first = line; others = front ++ next ∷ more; is = refl }

pub read_named_again : (penalty lower upper : ℕ) (rows : List NamedRow) → length rows ≤ MOST_COUNT → AreNamed rows → read_named penalty lower upper (states_line (length rows) ∷ map named_row_line rows ++ codes "end" ∷ [] ∷ []) ≡ Ok (numbered penalty lower upper rows)
unfolding read_named
read_named_again penalty lower upper rows count are =
    rw (
      said_again (count_of (codes "states ")) 4 (states_line (length rows)) (map named_row_line rows ++ codes "end" ∷ [] ∷ []) (length rows) (HasFirst-behind (map named_row_line rows) (codes "end") ([] ∷ [])) (count_again (codes "states ") (length rows) count),
      items_again named_rows_list named_row_line IsNamedRow named_row_again (λ r is. spaced_is_no_end r.lower _ is.lower) rows None 5 (codes "end") ([] ∷ []) are.formed (order_again named_rows_list None rows are.atoms_rise are.rows_rise),
      stop_again named_rows_list (5 + length rows) (codes "end") [] [] tt refl,
    ) refl

-- ---- version 2

-- tables and rows in range, in order and used
pub record AreNumbered (atoms acts : List (List ℕ)) (rows : List Row) : Type 0 where
  pub atoms_formed : AllByRecursion IsNameList atoms
  pub acts_formed : AllByRecursion IsNameList acts
  pub rows_formed : AllByRecursion (IsRow (length atoms) (length acts)) rows
  pub atoms_rise : rises compare_texts atoms ≡ true
  pub acts_rise : rises compare_texts acts ≡ true
  pub numbers_rise : AllByRecursion (λ r. IsTrue (rises nat_cmp r.atoms)) rows
  pub rows_rise : rises compare_rows rows ≡ true
  pub few : (length atoms ≤ MOST_COUNT) × (length acts ≤ MOST_COUNT) × (length rows ≤ MOST_COUNT)
  pub used : or_unused (unused_line (length atoms) (length acts) rows) ≡ Ok tt

abbrev pub tail_lines : List (List ℕ) → List (List ℕ) → List Row → List (List ℕ)
tail_lines atoms acts rows =
    atoms_line (length atoms) ∷ (map itself atoms ++ (acts_line (length acts) ∷ (map itself acts ++ (states_line (length rows) ∷ (map row_line rows ++ codes "end" ∷ [] ∷ [])))))

pub record IsNumberedRead (penalty lower upper : ℕ) (lines : List (List ℕ)) (c : Content) : Type 0 where
  pub atoms : List (List ℕ)
  pub acts : List (List ℕ)
  pub rows : List Row
  pub is : c ≡ content_of 2 penalty lower upper atoms acts rows
  pub are : AreNumbered atoms acts rows
  pub spelled : lines ≡ tail_lines atoms acts rows

-- the lines of rows and what stands behind them
abbrev from_rows : ℕ → ℕ → ℕ → ℕ → ℕ → ℕ → List (List ℕ) → List (List ℕ) → List (List ℕ) → Result Content CertRefusal
from_rows penalty lower upper k j n atoms acts lines =
    items_at (rows_list k j) n None (7 + k + j) lines >>= λ rows.
    stop_at (rows_list k j) (7 + k + j + n) rows.1 >>= λ end.
    nothing_at (8 + k + j + n) end.1 >>= λ ended.
    or_unused (unused_line k j rows.0) >>= λ used.
    Ok (content_of 2 penalty lower upper atoms acts rows.0)

-- the count of acts and what stands behind it
abbrev from_acts : ℕ → ℕ → ℕ → ℕ → List (List ℕ) → List (List ℕ) → Result Content CertRefusal
from_acts penalty lower upper k atoms lines =
    stop_at (table_list (codes "acts ")) (5 + k) lines >>= λ j.
    items_at (table_list (codes "states ")) j.0 None (6 + k) j.1 >>= λ acts.
    stop_at (table_list (codes "states ")) (6 + k + j.0) acts.1 >>= λ n.
    from_rows penalty lower upper k j.0 n.0 atoms acts.0 n.1

record AreRowsRead (penalty lower upper k j n : ℕ) (atoms acts lines : List (List ℕ)) (c : Content) : Type 0 where
  pub rows : List Row
  pub is : c ≡ content_of 2 penalty lower upper atoms acts rows
  pub spelled : lines ≡ map row_line rows ++ codes "end" ∷ [] ∷ []
  pub long : length rows ≡ n
  pub formed : AllByRecursion (IsRow k j) rows
  pub numbers_rise : AllByRecursion (λ r. IsTrue (rises nat_cmp r.atoms)) rows
  pub rows_rise : rises compare_rows rows ≡ true
  pub used : or_unused (unused_line k j rows) ≡ Ok tt

rows_read : (penalty lower upper k j n : ℕ) (atoms acts lines : List (List ℕ)) (c : Content) → from_rows penalty lower upper k j n atoms acts lines ≡ Ok c → AreRowsRead penalty lower upper k j n atoms acts lines c
rows_read penalty lower upper k j n atoms acts lines c e =
    let rows = bind_ok (items_at (rows_list k j) n None (7 + k + j) lines) (λ rows. stop_at (rows_list k j) (7 + k + j + n) rows.1 >>= λ end. nothing_at (8 + k + j + n) end.1 >>= λ ended. or_unused (unused_line k j rows.0) >>= λ used. Ok (content_of 2 penalty lower upper atoms acts rows.0)) c e in
    ended rows.0.0 rows.0.1 rows.1 rows.2
  where
    ended : (rows : List Row) (rest : List (List ℕ)) → items_at (rows_list k j) n None (7 + k + j) lines ≡ Ok (rows, rest)
        → (stop_at (rows_list k j) (7 + k + j + n) rest >>= λ end. nothing_at (8 + k + j + n) end.1 >>= λ ended. or_unused (unused_line k j rows) >>= λ used. Ok (content_of 2 penalty lower upper atoms acts rows)) ≡ Ok c
        → AreRowsRead penalty lower upper k j n atoms acts lines c
    ended rows rest items e =
        let end = bind_ok (stop_at (rows_list k j) (7 + k + j + n) rest) (λ end. nothing_at (8 + k + j + n) end.1 >>= λ ended. or_unused (unused_line k j rows) >>= λ used. Ok (content_of 2 penalty lower upper atoms acts rows)) c e in
        let done = bind_ok (nothing_at (8 + k + j + n) end.0.1) (λ ended. or_unused (unused_line k j rows) >>= λ used. Ok (content_of 2 penalty lower upper atoms acts rows)) c end.2 in
        let used = bind_ok (or_unused (unused_line k j rows)) (λ used. Ok (content_of 2 penalty lower upper atoms acts rows)) c done.2 in
        let found = items_are (rows_list k j) row_line (IsRow k j) (row_is k j) n None (7 + k + j) lines rows rest items in
        let ordered = order_parts (rows_list k j) None rows found.3 in
        let stopped = stop_is (rows_list k j) (7 + k + j + n) rest end.0.0 end.0.1 end.1 in
        let last : rest ≡ codes "end" ∷ [] ∷ [] =
        stopped.1 ∙ ap (λ (l : List ℕ). l ∷ end.0.1) (end_is stopped.0 end.0.0 stopped.2) ∙ ap (λ (x : List (List ℕ)). codes "end" ∷ x) (nothing_is (8 + k + j + n) end.0.1 done.0 done.1) in record {
          rows = rows;
          is = sym (ok_is (content_of 2 penalty lower upper atoms acts rows) c used.2);
          spelled = found.0 ∙ ap (λ (x : List (List ℕ)). map row_line rows ++ x) last;
          long = found.1;
          formed = found.2;
          numbers_rise = ordered.0;
          rows_rise = ordered.1;
          used = used.1;
        }

record AreActsRead (penalty lower upper k : ℕ) (atoms lines : List (List ℕ)) (c : Content) : Type 0 where
  pub acts : List (List ℕ)
  pub n : ℕ
  pub acts_formed : AllByRecursion IsNameList acts
  pub acts_rise : rises compare_texts acts ≡ true
  pub few : (length acts ≤ MOST_COUNT) × (n ≤ MOST_COUNT)
  pub behind : List (List ℕ)
  pub spelled : lines ≡ acts_line (length acts) ∷ (map itself acts ++ (states_line n ∷ behind))
  pub rows : AreRowsRead penalty lower upper k (length acts) n atoms acts behind c

acts_read : (penalty lower upper k : ℕ) (atoms lines : List (List ℕ)) (c : Content) → from_acts penalty lower upper k atoms lines ≡ Ok c → AreActsRead penalty lower upper k atoms lines c
acts_read penalty lower upper k atoms lines c e =
    let j = bind_ok (stop_at (table_list (codes "acts ")) (5 + k) lines) (λ j. items_at (table_list (codes "states ")) j.0 None (6 + k) j.1 >>= λ acts. stop_at (table_list (codes "states ")) (6 + k + j.0) acts.1 >>= λ n. from_rows penalty lower upper k j.0 n.0 atoms acts.0 n.1) c e in
    counted j.0.0 j.0.1 j.1 j.2
  where
    named : (j : ℕ) (rest : List (List ℕ)) → stop_at (table_list (codes "acts ")) (5 + k) lines ≡ Ok (j, rest)
        → (acts : List (List ℕ)) (after : List (List ℕ)) → items_at (table_list (codes "states ")) j None (6 + k) rest ≡ Ok (acts, after)
        → (stop_at (table_list (codes "states ")) (6 + k + j) after >>= λ n. from_rows penalty lower upper k j n.0 atoms acts n.1) ≡ Ok c
        → AreActsRead penalty lower upper k atoms lines c
    named j rest stop acts after items e =
        let n = bind_ok (stop_at (table_list (codes "states ")) (6 + k + j) after) (λ n. from_rows penalty lower upper k j n.0 atoms acts n.1) c e in
        let stop_j = stop_is (table_list (codes "acts ")) (5 + k) lines j rest stop in
        let count_j = count_is (codes "acts ") stop_j.0 j stop_j.2 in
        let found = items_are (table_list (codes "states ")) itself IsNameList entry_is j None (6 + k) rest acts after items in
        let ordered = order_parts (table_list (codes "states ")) None acts found.3 in
        let stop_n = stop_is (table_list (codes "states ")) (6 + k + j) after n.0.0 n.0.1 n.1 in
        let count_n = count_is (codes "states ") stop_n.0 n.0.0 stop_n.2 in
        let behind : after ≡ states_line n.0.0 ∷ n.0.1 = stop_n.1 ∙ ap (λ (l : List ℕ). l ∷ n.0.1) count_n.0 in
        let head : stop_j.0 ≡ acts_line (length acts) = count_j.0 ∙ ap acts_line (sym found.1) in
        let tail : rest ≡ map itself acts ++ (states_line n.0.0 ∷ n.0.1) = found.0 ∙ ap (λ (x : List (List ℕ)). map itself acts ++ x) behind in record {
          acts = acts;
          n = n.0.0;
          acts_formed = found.2;
          acts_rise = ordered.1;
          few = (omega (arith, found.1, count_j.1), count_n.1);
          behind = n.0.1;
          spelled = stop_j.1 ∙ ap (λ (l : List ℕ). l ∷ rest) head ∙ ap (λ (x : List (List ℕ)). acts_line (length acts) ∷ x) tail;
          rows = subst (λ (x : ℕ). AreRowsRead penalty lower upper k x n.0.0 atoms acts n.0.1 c) (sym found.1) (rows_read penalty lower upper k j n.0.0 atoms acts n.0.1 c n.2);
        }

    counted : (j : ℕ) (rest : List (List ℕ)) → stop_at (table_list (codes "acts ")) (5 + k) lines ≡ Ok (j, rest)
        → (items_at (table_list (codes "states ")) j None (6 + k) rest >>= λ acts. stop_at (table_list (codes "states ")) (6 + k + j) acts.1 >>= λ n. from_rows penalty lower upper k j n.0 atoms acts.0 n.1) ≡ Ok c
        → AreActsRead penalty lower upper k atoms lines c
    counted j rest stop e =
        let acts = bind_ok (items_at (table_list (codes "states ")) j None (6 + k) rest) (λ acts. stop_at (table_list (codes "states ")) (6 + k + j) acts.1 >>= λ n. from_rows penalty lower upper k j n.0 atoms acts.0 n.1) c e in
        named j rest stop acts.0.0 acts.0.1 acts.1 acts.2

together : (penalty lower upper : ℕ) (lines atoms after : List (List ℕ)) (c : Content) → AllByRecursion IsNameList atoms → rises compare_texts atoms ≡ true → length atoms ≤ MOST_COUNT
    → lines ≡ atoms_line (length atoms) ∷ (map itself atoms ++ after) → AreActsRead penalty lower upper (length atoms) atoms after c → IsNumberedRead penalty lower upper lines c
together penalty lower upper lines atoms after c formed rise few spelled read =
    let rows : List Row = read.rows.rows in
    let behind : read.behind ≡ map row_line rows ++ codes "end" ∷ [] ∷ [] = read.rows.spelled in
    let states : states_line read.n ∷ read.behind ≡ states_line (length rows) ∷ (map row_line rows ++ codes "end" ∷ [] ∷ []) =
    ap (λ (n : ℕ). states_line n ∷ read.behind) (sym read.rows.long) ∙ ap (λ (x : List (List ℕ)). states_line (length rows) ∷ x) behind in
    let tail : after ≡ acts_line (length read.acts) ∷ (map itself read.acts ++ (states_line (length rows) ∷ (map row_line rows ++ codes "end" ∷ [] ∷ []))) =
    read.spelled ∙ ap (λ (x : List (List ℕ)). acts_line (length read.acts) ∷ (map itself read.acts ++ x)) states in record {
      atoms = atoms;
      acts = read.acts;
      rows = rows;
      is = read.rows.is;
      are = record {
        atoms_formed = formed;
        acts_formed = read.acts_formed;
        rows_formed = read.rows.formed;
        atoms_rise = rise;
        acts_rise = read.acts_rise;
        numbers_rise = read.rows.numbers_rise;
        rows_rise = read.rows.rows_rise;
        few = (few, read.few.0, omega (arith, read.rows.long, read.few.1));
        used = read.rows.used;
      };
      spelled = spelled ∙ ap (λ (x : List (List ℕ)). atoms_line (length atoms) ∷ (map itself atoms ++ x)) tail;
    }

pub read_numbered_is : (penalty lower upper : ℕ) (lines : List (List ℕ)) (c : Content) → read_numbered penalty lower upper lines ≡ Ok c → IsNumberedRead penalty lower upper lines c
unfolding read_numbered
read_numbered_is penalty lower upper lines c e =
    let k = bind_ok (said_at (count_of (codes "atoms ")) 4 lines) (λ k. items_at (table_list (codes "acts ")) k.0 None 5 k.1 >>= λ atoms. from_acts penalty lower upper k.0 atoms.0 atoms.1) c e in
    counted k.0.0 k.0.1 k.1 k.2
  where
    named : (k : ℕ) (rest : List (List ℕ)) → said_at (count_of (codes "atoms ")) 4 lines ≡ Ok (k, rest)
        → (atoms after : List (List ℕ)) → items_at (table_list (codes "acts ")) k None 5 rest ≡ Ok (atoms, after)
        → from_acts penalty lower upper k atoms after ≡ Ok c → IsNumberedRead penalty lower upper lines c
    named k rest said atoms after items e =
        let head = said_is (count_of (codes "atoms ")) 4 lines k rest said in
        let count = count_is (codes "atoms ") head.0 k head.2 in
        let found = items_are (table_list (codes "acts ")) itself IsNameList entry_is k None 5 rest atoms after items in
        let ordered = order_parts (table_list (codes "acts ")) None atoms found.3 in
        let spelled : lines ≡ atoms_line (length atoms) ∷ (map itself atoms ++ after) =
        head.1 ∙ ap (λ (l : List ℕ). l ∷ rest) (count.0 ∙ ap atoms_line (sym found.1)) ∙ ap (λ (x : List (List ℕ)). atoms_line (length atoms) ∷ x) found.0 in
        together penalty lower upper lines atoms after c found.2 ordered.1 (omega (arith, found.1, count.1)) spelled
        (subst (λ (x : ℕ). AreActsRead penalty lower upper x atoms after c) (sym found.1) (acts_read penalty lower upper k atoms after c e))

    counted : (k : ℕ) (rest : List (List ℕ)) → said_at (count_of (codes "atoms ")) 4 lines ≡ Ok (k, rest)
        → (items_at (table_list (codes "acts ")) k None 5 rest >>= λ atoms. from_acts penalty lower upper k atoms.0 atoms.1) ≡ Ok c
        → IsNumberedRead penalty lower upper lines c
    counted k rest said e =
        let atoms = bind_ok (items_at (table_list (codes "acts ")) k None 5 rest) (λ atoms. from_acts penalty lower upper k atoms.0 atoms.1) c e in
        named k rest said atoms.0.0 atoms.0.1 atoms.1 atoms.2

pub read_numbered_again : (penalty lower upper : ℕ) (atoms acts : List (List ℕ)) (rows : List Row) → AreNumbered atoms acts rows → read_numbered penalty lower upper (tail_lines atoms acts rows) ≡ Ok (content_of 2 penalty lower upper atoms acts rows)
unfolding read_numbered
read_numbered_again penalty lower upper atoms acts rows are =
    let k : ℕ = length atoms in
    let j : ℕ = length acts in
    let n : ℕ = length rows in
    let lines_n : List (List ℕ) = map row_line rows ++ codes "end" ∷ [] ∷ [] in
    let lines_j : List (List ℕ) = map itself acts ++ (states_line n ∷ lines_n) in
    let lines_k : List (List ℕ) = map itself atoms ++ (acts_line j ∷ lines_j) in
    let second_j = HasFirst-behind (map itself acts) (states_line n) lines_n in
    let second_n = HasFirst-behind (map row_line rows) (codes "end") ([] ∷ []) in
    rw (
      said_again (count_of (codes "atoms ")) 4 (atoms_line k) lines_k k (HasFirst-behind (map itself atoms) (acts_line j) lines_j) (count_again (codes "atoms ") k are.few.0),
      items_again (table_list (codes "acts ")) itself IsNameList entry_again (λ text is. list_is_no_count 97 (codes "cts ") text (λ e. omega (arith, e)) is) atoms None 5 (acts_line j) lines_j are.atoms_formed (order_again (table_list (codes "acts ")) None atoms (own_all atoms) are.atoms_rise),
      stops (table_list (codes "acts ")) (5 + k) (acts_line j) lines_j j second_j (count_again (codes "acts ") j are.few.1),
      items_again (table_list (codes "states ")) itself IsNameList entry_again (λ text is. list_is_no_count 115 (codes "tates ") text (λ e. omega (arith, e)) is) acts None (6 + k) (states_line n) lines_n are.acts_formed (order_again (table_list (codes "states ")) None acts (own_all acts) are.acts_rise),
      stops (table_list (codes "states ")) (6 + k + j) (states_line n) lines_n n second_n (count_again (codes "states ") n are.few.2),
      items_again (rows_list k j) row_line (IsRow k j) (λ r is. row_again k j r are.few.0 are.few.1 is) (λ r is. spaced_is_no_end r.lower _ is.lower) rows None (7 + k + j) (codes "end") ([] ∷ []) are.rows_formed (order_again (rows_list k j) None rows are.numbers_rise are.rows_rise),
      stop_again (rows_list k j) (7 + k + j + n) (codes "end") [] [] tt refl,
      are.used,
    ) refl
  where
    own_all : (table : List (List ℕ)) → AllByRecursion (λ text. IsTrue true) table
    own_all [] = tt
    own_all (x ∷ table) = (refl, own_all table)

    stops : {X Y : Type 0} (list : Counted X Y) (k : ℕ) (line : List ℕ) (rest : List (List ℕ)) (y : Y) → HasFirst rest → list.stop line ≡ Some y → stop_at list k (line ∷ rest) ≡ Ok (y, rest)
    stops list k line rest y first is = ap (λ (r : List (List ℕ)). stop_at list k (line ∷ r)) first.is ∙ stop_again list k line first.first first.others y is ∙ ap (λ (r : List (List ℕ)). Ok (y, r)) (sym first.is)

-- ---- what the code has read

pub named_rows_are : (count k : ℕ) (lines : List (List ℕ)) (rows : List NamedRow) (rest : List (List ℕ)) → count ≤ MOST_COUNT → items_at named_rows_list count None k lines ≡ Ok (rows, rest) → (length rows ≤ MOST_COUNT) × AreNamed rows
named_rows_are count k lines rows rest few e =
    let found = items_are named_rows_list named_row_line IsNamedRow named_row_is count None k lines rows rest e in
    let ordered = order_parts named_rows_list None rows found.3 in
    (omega (arith, few, found.1), record { formed = found.2; atoms_rise = ordered.0; rows_rise = ordered.1 })

pub rows_in_range : (k j n first : ℕ) (lines : List (List ℕ)) (rows : List Row) (rest : List (List ℕ)) → items_at (rows_list k j) n None first lines ≡ Ok (rows, rest) → AllByRecursion (IsRow k j) rows
rows_in_range k j n first lines rows rest e = (items_are (rows_list k j) row_line (IsRow k j) (row_is k j) n None first lines rows rest e).2

pub record IsTableRead (word : List ℕ) (n : ℕ) (table : List (List ℕ)) : Type 0 where
  pub long : length table ≡ n
  pub formed : AllByRecursion IsNameList table
  pub rise : rises compare_texts table ≡ true

pub table_is : (word : List ℕ) (n first : ℕ) (lines table rest : List (List ℕ)) → items_at (table_list word) n None first lines ≡ Ok (table, rest) → IsTableRead word n table
table_is word n first lines table rest e =
    let found = items_are (table_list word) itself IsNameList entry_is n None first lines table rest e in
    record { long = found.1; formed = found.2; rise = (order_parts (table_list word) None table found.3).1 }

pub numbers_read : (k j n first : ℕ) (v w : List ℕ) (atoms acts lines rest : List (List ℕ)) (rows : List Row) (u : Unit {0}) → k ≤ MOST_COUNT → j ≤ MOST_COUNT → n ≤ MOST_COUNT
    → IsTableRead v k atoms → IsTableRead w j acts → items_at (rows_list k j) n None first lines ≡ Ok (rows, rest) → or_unused (unused_line k j rows) ≡ Ok u → AreNumbered atoms acts rows
numbers_read k j n first v w atoms acts lines rest rows u few_k few_j few_n a t e used =
    let found = items_are (rows_list k j) row_line (IsRow k j) (row_is k j) n None first lines rows rest e in
    let ordered = order_parts (rows_list k j) None rows found.3 in record {
      atoms_formed = a.formed;
      acts_formed = t.formed;
      rows_formed = subst (λ (x : ℕ × ℕ). AllByRecursion (IsRow x.0 x.1) rows) (ap (λ (x : ℕ). (x, j)) (sym a.long) ∙ ap (λ (x : ℕ). (length atoms, x)) (sym t.long)) found.2;
      atoms_rise = a.rise;
      acts_rise = t.rise;
      numbers_rise = ordered.0;
      rows_rise = ordered.1;
      few = (omega (arith, a.long, few_k), omega (arith, t.long, few_j), omega (arith, found.1, few_n));
      used = rw (a.long, t.long) used;
    }
