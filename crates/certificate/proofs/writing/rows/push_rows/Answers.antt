use Rattle.std.proofs.Common.{map, arith}
use Rattle.std.specs.List.{flat_map}
use Rattle.certificate.specs.declared.limits.TheConstants.{MOST_BYTES}
use Rattle.certificate.specs.Rows.{shown}
use Rattle.certificate.specs.Spelling.{row_line}
use Rattle.certificate.specs.Content.{ended}
use Rattle.certificate.proofs.Appended.{rows_pushed, rows_too_long, numbered_written}
use Rattle.certificate.proofs.writing.rows.push_rows.Goals as goal

pub returns-then-len-gt-MOST_BYTES : goal.returns-then-len-gt-MOST_BYTES
returns-then-len-gt-MOST_BYTES c =
    rows_too_long (λ r. ended (row_line r)) (λ rows. flat_map ended (map row_line rows)) numbered_written c.args.out.now.items c.loop-place.out.items c.push_row.new.out.items c.args.rows.now c.loop-place.place (shown c.row.result)
    MOST_BYTES c.row.ensures c.loop-place.invariant c.in_ok-push_row.ensures (omega (arith, c.len.ensures, c.if-len-gt-MOST_BYTES.true))

pub loop-place-preserved : goal.loop-place-preserved
loop-place-preserved c =
    rows_pushed (λ r. ended (row_line r)) (λ rows. flat_map ended (map row_line rows)) numbered_written c.args.out.now.items c.loop-place.out.items c.push_row.new.out.items c.args.rows.now c.loop-place.place (shown c.row.result)
    c.row.ensures c.loop-place.invariant c.in_ok-push_row.ensures
