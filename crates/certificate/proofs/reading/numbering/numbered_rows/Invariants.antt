use Rattle.std.proofs.Common.{◌≡◌, take, map}
use Rattle.certificate.specs.Numbering.{numbered_row}
use Rattle.certificate.proofs.reading.numbering.numbered_rows.Given as goal

abbrev pub invariant-loop-row : goal.invariant-loop-row
invariant-loop-row l = l.numbered ≡ map (numbered_row l.atoms l.acts) (take l.row-index l.rows)
