use Rattle.std.proofs.Common.{◌≡◌, map, take}
use Rattle.certificate.specs.Numbering.{numbered_row}
use Rattle.cert_merge.specs.Pairs.{row_of}
use Rattle.cert_merge.proofs.numbering.numbered_rows.Given as goal

abbrev pub invariant-loop-origin : goal.invariant-loop-origin
invariant-loop-origin l = l.rows ≡ map (numbered_row l.atoms l.acts) (map (row_of l.first l.second) (take l.origin-index l.origins))
