use Rattle.std.proofs.Common.{◌≡◌, ◌++◌, map, List, ℕ, Some, arith}
use Rattle.std.specs.List.{flat_map, slice_get}
use Rattle.certificate.specs.declared.limits.TheConstants.{MOST_BYTES_1}
use Rattle.certificate.specs.Rows.{Row, shown}
use Rattle.certificate.specs.Spelling.{named_row_line}
use Rattle.certificate.specs.Content.{ended, named_row}
use Rattle.certificate.proofs.Appended.{rows_pushed, rows_too_long, named_written}
use Rattle.certificate.proofs.writing.rows.push_named_rows.Goals as goal

pub returns-then-len-gt-MOST_BYTES_1 : goal.returns-then-len-gt-MOST_BYTES_1
returns-then-len-gt-MOST_BYTES_1 c =
    let atoms : List (List ℕ) = c.args.certificate.now.atoms in
    let acts : List (List ℕ) = c.args.certificate.now.acts in
    let rows : List Row = c.args.certificate.now.rows in
    let row : Row = shown c.row.result in
    let at : slice_get rows c.loop-place.place ≡ Some row = rw c.rows-rows.ensures.value at c.row.ensures in
    let pushed : c.push_named_row.new.out.items ≡ c.loop-place.out.items ++ ended (named_row_line (named_row atoms acts row)) = rw (c.atoms.ensures.value, c.acts.ensures.value) at c.in_ok-push_named_row.ensures in
    rows_too_long (λ r. ended (named_row_line (named_row atoms acts r))) (λ rs. flat_map ended (map named_row_line (map (named_row atoms acts) rs))) (named_written atoms acts) c.args.out.now.items c.loop-place.out.items c.push_named_row.new.out.items rows c.loop-place.place row
    MOST_BYTES_1 at c.loop-place.invariant pushed (omega (arith, c.len.ensures, c.if-len-gt-MOST_BYTES_1.true))

pub loop-place-preserved : goal.loop-place-preserved
loop-place-preserved c =
    let atoms : List (List ℕ) = c.args.certificate.now.atoms in
    let acts : List (List ℕ) = c.args.certificate.now.acts in
    let rows : List Row = c.args.certificate.now.rows in
    let row : Row = shown c.row.result in
    let at : slice_get rows c.loop-place.place ≡ Some row = rw c.rows-rows.ensures.value at c.row.ensures in
    let pushed : c.push_named_row.new.out.items ≡ c.loop-place.out.items ++ ended (named_row_line (named_row atoms acts row)) = rw (c.atoms.ensures.value, c.acts.ensures.value) at c.in_ok-push_named_row.ensures in
    rows_pushed (λ r. ended (named_row_line (named_row atoms acts r))) (λ rs. flat_map ended (map named_row_line (map (named_row atoms acts) rs))) (named_written atoms acts) c.args.out.now.items c.loop-place.out.items c.push_named_row.new.out.items rows c.loop-place.place row
    at c.loop-place.invariant pushed
