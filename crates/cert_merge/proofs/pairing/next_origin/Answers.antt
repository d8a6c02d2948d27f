-- The order of the next two rows tells which is next; where one list has ended, the other's is.
use Rattle.std.proofs.Common.{◌≡◌, ◌∙◌, ℕ, ◌<◌, sym, ap, subst, length, List, Some, arith}
use Rattle.std.specs.Prelude.{All}
use Rattle.std.specs.List.{slice_get}
use Rattle.certificate.specs.Rows.{Row, shown}
use Rattle.certificate.specs.Content.{Content}
use Rattle.certificate.specs.Reading.{compare_named_rows}
use Rattle.certificate.specs.Content.{named_rows}
use Rattle.cert_merge.specs.Pairs.{row_in}
use Rattle.cert_merge.proofs.NextRow.{other_of, all_from, row_form, rows_compared, only_first, only_second, first_next, second_next, both_next}
use Rattle.cert_merge.proofs.pairing.next_origin.Goals as goal

read_row : (rows : List Row) (c : Content) (i : ℕ) (r : Row) → rows ≡ c.rows → slice_get rows i ≡ Some r → slice_get c.rows i ≡ Some r
read_row rows c i r same at = ap (λ (l : List Row). slice_get l i) (sym same) ∙ at

pub overflow_cast-result : goal.overflow_cast-result
overflow_cast-result c =
    let few = c.rows-others.ensures.valid.count in let most = c.requires.within.1 in omega arith

pub returns-then-i-len : goal.returns-then-i-len
returns-then-i-len c =
    let first = c.args.first.now in let second = c.args.second.now in
    let long : length c.rows-rows.result.now ≡ length first.rows = ap length c.rows-rows.ensures.value in
    let past = c.if-i-len.true in let len = c.len.ensures in let most = c.requires.within.0 in
    only_second first second c.args.i c.args.j (omega (arith, long, past, len, most))
    (other_of c.requires.some (λ below. omega (arith, long, past, len, below)))

pub returns-then-j-len : goal.returns-then-j-len
returns-then-j-len c =
    let first = c.args.first.now in let second = c.args.second.now in
    let long : length c.rows-rows.result.now ≡ length first.rows = ap length c.rows-rows.ensures.value in
    let long' : length c.rows-others.result.now ≡ length second.rows = ap length c.rows-others.ensures.value in
    let before = c.if-i-len.false in let past = c.if-j-len.true in let most = c.requires.within.1 in
    only_first first second c.args.i c.args.j (omega (arith, long, before, c.len.ensures)) (omega (arith, long', past, most, c.len-2.ensures))

pub compare_atoms-requires-clause-first : goal.compare_atoms-requires-clause-first
compare_atoms-requires-clause-first c =
    let first = c.args.first.now in let r : Row = shown c.row.result in
    let at = read_row c.rows-rows.result.now first c.args.i r c.rows-rows.ensures.value c.row.ensures in
    subst (λ n. All (λ q. q < n) r.atoms) (sym c.requires.ours)
    (all_from (λ q. q < length first.atoms) r.atoms (row_form first c.rows-rows.ensures.valid c.args.i r at).atoms)

pub compare_atoms-requires-clause-second : goal.compare_atoms-requires-clause-second
compare_atoms-requires-clause-second c =
    let second = c.args.second.now in let s : Row = shown c.row-2.result in
    let at = read_row c.rows-others.result.now second c.args.j s c.rows-others.ensures.value c.row-2.ensures in
    subst (λ n. All (λ q. q < n) s.atoms) (sym c.requires.theirs)
    (all_from (λ q. q < length second.atoms) s.atoms (row_form second c.rows-others.ensures.valid c.args.j s at).atoms)

pub returns-in-Less : goal.returns-in-Less
returns-in-Less c =
    let first = c.args.first.now in let second = c.args.second.now in
    let r : Row = shown c.row.result in let s : Row = shown c.row-2.result in
    let at = read_row c.rows-rows.result.now first c.args.i r c.rows-rows.ensures.value c.row.ensures in
    let at' = read_row c.rows-others.result.now second c.args.j s c.rows-others.ensures.value c.row-2.ensures in
    let long : length c.rows-rows.result.now ≡ length first.rows = ap length c.rows-rows.ensures.value in
    let long' : length c.rows-others.result.now ≡ length second.rows = ap length c.rows-others.ensures.value in
    let before = c.if-i-len.false in let before' = c.if-j-len.false in
    let told : c.compare_atoms.result ≡ compare_named_rows (row_in (named_rows first) c.args.i) (row_in (named_rows second) c.args.j)
    = c.compare_atoms.ensures
    ∙ rows_compared first second c.args.ours.now c.args.theirs.now c.requires.agree c.rows-rows.ensures.valid c.rows-others.ensures.valid c.args.i c.args.j r s at at' in
    first_next first second c.args.i c.args.j (omega (arith, long, before, c.len.ensures)) (omega (arith, long', before', c.len-2.ensures))
    (sym c.in-Less.is ∙ told)

pub returns-in-Equal : goal.returns-in-Equal
returns-in-Equal c =
    let first = c.args.first.now in let second = c.args.second.now in
    let r : Row = shown c.row.result in let s : Row = shown c.row-2.result in
    let at = read_row c.rows-rows.result.now first c.args.i r c.rows-rows.ensures.value c.row.ensures in
    let at' = read_row c.rows-others.result.now second c.args.j s c.rows-others.ensures.value c.row-2.ensures in
    let long : length c.rows-rows.result.now ≡ length first.rows = ap length c.rows-rows.ensures.value in
    let long' : length c.rows-others.result.now ≡ length second.rows = ap length c.rows-others.ensures.value in
    let before = c.if-i-len.false in let before' = c.if-j-len.false in
    let told : c.compare_atoms.result ≡ compare_named_rows (row_in (named_rows first) c.args.i) (row_in (named_rows second) c.args.j)
    = c.compare_atoms.ensures
    ∙ rows_compared first second c.args.ours.now c.args.theirs.now c.requires.agree c.rows-rows.ensures.valid c.rows-others.ensures.valid c.args.i c.args.j r s at at' in
    both_next first second c.args.i c.args.j (omega (arith, long, before, c.len.ensures)) (omega (arith, long', before', c.len-2.ensures))
    (sym c.in-Equal.is ∙ told)

pub returns-in-Greater : goal.returns-in-Greater
returns-in-Greater c =
    let first = c.args.first.now in let second = c.args.second.now in
    let r : Row = shown c.row.result in let s : Row = shown c.row-2.result in
    let at = read_row c.rows-rows.result.now first c.args.i r c.rows-rows.ensures.value c.row.ensures in
    let at' = read_row c.rows-others.result.now second c.args.j s c.rows-others.ensures.value c.row-2.ensures in
    let long : length c.rows-rows.result.now ≡ length first.rows = ap length c.rows-rows.ensures.value in
    let long' : length c.rows-others.result.now ≡ length second.rows = ap length c.rows-others.ensures.value in
    let before = c.if-i-len.false in let before' = c.if-j-len.false in
    let told : c.compare_atoms.result ≡ compare_named_rows (row_in (named_rows first) c.args.i) (row_in (named_rows second) c.args.j)
    = c.compare_atoms.ensures
    ∙ rows_compared first second c.args.ours.now c.args.theirs.now c.requires.agree c.rows-rows.ensures.valid c.rows-others.ensures.valid c.args.i c.args.j r s at at' in
    second_next first second c.args.i c.args.j (omega (arith, long, before, c.len.ensures)) (omega (arith, long', before', c.len-2.ensures))
    (sym c.in-Greater.is ∙ told)
